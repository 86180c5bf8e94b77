use Rattle.std.proofs.Common.{sym, subst, refl, IsSome}
use Rattle.std.proofs.lemmas.Result.{on_ok_weaker}
use Rattle.std.specs.BTreeMap.{get, is_at}
use Rattle.std.specs.Ordering.{nat_cmp}
use Rattle.shot_cells.specs.Places.{RoomFor, by_name, held}
use Rattle.shot_cells.proofs.PlaceLemmas.{made_room, nothing_held, room_same}
use Rattle.shot_cells.proofs.places.make_in_column.Goals as goal

pub returns-in_err-make_named-clause-room : goal.returns-in_err-make_named-clause-room
returns-in_err-make_named-clause-room c = λ name other.
    subst (λ o. RoomFor (held nat_cmp (get by_name c.args.columns.now name) other) (held nat_cmp o other)) (sym (c.in_err-make_named.ensures.err name))
    (room_same (held nat_cmp (get by_name c.args.columns.now name) other))

pub returns-clause-ok : goal.returns-clause-ok
returns-clause-ok c =
    let updates = (c.get_mut.follows.holds c.make_row.new.values).3 (subst IsSome c.in-Some.ensures.value refl) in
    on_ok_weaker c.make_row.result (λ is. subst (λ o. IsSome (held nat_cmp o c.args.row)) (sym updates.1) is) c.make_row.ensures.ok

pub returns-clause-room : goal.returns-clause-room
returns-clause-room c =
    let updates = (c.get_mut.follows.holds c.make_row.new.values).3 (subst IsSome c.in-Some.ensures.value refl) in
    made_room (held nat_cmp) c.args.columns.now c.make_named.new.named (c.get_mut.follows.lender c.make_row.new.values) c.args.column.now c.new.result c.in-Some.values.now c.make_row.new.values
    (λ row. nothing_held (is_at (nat_cmp row)) c.new.result.entries c.new.ensures.len)
    c.in_ok-make_named.ensures.ok c.in-Some.ensures.value updates c.make_row.ensures.room
