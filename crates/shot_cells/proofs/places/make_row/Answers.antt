use Rattle.std.proofs.Common.{sym, subst}
use Rattle.std.specs.BTreeMap.{get, is_at}
use Rattle.std.specs.Map.{lookup}
use Rattle.std.specs.Ordering.{nat_cmp}
use Rattle.shot_cells.specs.Places.{RoomFor}
use Rattle.shot_cells.proofs.PlaceLemmas.{nothing_at, room_same, row_room}
use Rattle.shot_cells.proofs.places.make_row.Goals as goal

pub returns-then-contains_key-clause-room : goal.returns-then-contains_key-clause-room
returns-then-contains_key-clause-room c = λ other. room_same (get nat_cmp c.args.values.now other)

pub returns-in_err-insert-clause-room : goal.returns-in_err-insert-clause-room
returns-in_err-insert-clause-room c = λ other.
    subst (λ entries. RoomFor (get nat_cmp c.args.values.now other) (lookup (is_at (nat_cmp other)) entries)) (sym c.in_err-insert.ensures.err)
    (room_same (get nat_cmp c.args.values.now other))

pub returns-clause-room : goal.returns-clause-room
returns-clause-room c =
    row_room c.args.values.now c.insert.new.self c.args.row
    (nothing_at (get nat_cmp c.args.values.now c.args.row) c.contains_key.result c.contains_key.ensures c.if-contains_key.false) c.in_ok-insert.ensures.updates
