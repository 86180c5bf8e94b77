use Rattle.std.proofs.Common.{ℕ, List, sym, subst, ap, refl, IsSome}
use Rattle.std.proofs.lemmas.Result.{on_ok_weaker}
use Rattle.std.specs.BTreeMap.{is_at}
use Rattle.std.specs.Ordering.{nat_cmp}
use Rattle.shot_cells.specs.Places.{RoomFor, by_name, held, place_at}
use Rattle.shot_cells.proofs.PlaceLemmas.{made_room, nothing_held, room_same}
use Rattle.shot_cells.proofs.places.make_place.Goals as goal

pub returns-in_err-make_named-clause-room : goal.returns-in_err-make_named-clause-room
returns-in_err-make_named-clause-room c = λ table column row.
    subst (λ o. RoomFor (place_at c.args.tables.now table column row) (held nat_cmp (held by_name o column) row)) (sym (c.in_err-make_named.ensures.err table))
    (room_same (place_at c.args.tables.now table column row))

pub returns-clause-ok : goal.returns-clause-ok
returns-clause-ok c =
    let updates = (c.get_mut.follows.holds c.make_in_column.new.columns).3 (subst IsSome c.in-Some.ensures.value refl) in
    on_ok_weaker c.make_in_column.result (λ is. subst (λ o. IsSome (held nat_cmp (held by_name o c.args.cell.now.column) c.args.cell.now.row)) (sym updates.1) is) c.make_in_column.ensures.ok

pub returns-clause-room : goal.returns-clause-room
returns-clause-room c = λ table column row.
    let updates = (c.get_mut.follows.holds c.make_in_column.new.columns).3 (subst IsSome c.in-Some.ensures.value refl) in
    made_room {J = List ℕ × ℕ} (λ o j. held nat_cmp (held by_name o j.0) j.1) c.args.tables.now c.make_named.new.named (c.get_mut.follows.lender c.make_in_column.new.columns)
    c.args.cell.now.table c.new.result c.in-Some.columns.now c.make_in_column.new.columns
    (λ j. ap (λ o. held nat_cmp o j.1) (nothing_held (is_at (by_name j.0)) c.new.result.entries c.new.ensures.len))
    c.in_ok-make_named.ensures.ok c.in-Some.ensures.value updates (λ j. c.make_in_column.ensures.room j.0 j.1) table (column, row)
