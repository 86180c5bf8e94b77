use Rattle.std.proofs.Common.{◌≡◌, ◌+◌, ◌*◌, drop}
use Rattle.formula_parse.specs.Tree.{from_list}
use Rattle.formula_parse.specs.TreeSize.{tree_size, trees_size}
use Rattle.acl_formula.specs.Room.{items_room}
use Rattle.acl_formula.proofs.room.+room.Given as goal

abbrev pub decreases-room_of : goal.decreases-room_of
decreases-room_of l = 2 * tree_size l.formula.now

abbrev pub decreases-items_room : goal.decreases-items_room
decreases-items_room l = 2 * trees_size (from_list l.items.now) + 1

abbrev pub invariant-items_room-loop-item : goal.invariant-items_room-loop-item
invariant-items_room-loop-item l =
    l.room + items_room (from_list (drop l.item-index l.item-items)) ≡ items_room (from_list l.items)
