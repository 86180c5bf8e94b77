use Rattle.std.proofs.Common.{◌≡◌, ◌<◌, List, subst, ap, arith}
use Rattle.formula_parse.specs.Tree.{Tree, from_list}
use Rattle.formula_parse.specs.TreeSize.{tree_size, trees_size}
use Rattle.acl_formula.specs.Room.{items_room}
use Rattle.acl_formula.proofs.FormulaItems.{item_smaller, items_drop}
use Rattle.acl_formula.proofs.room.+room.Goals as goal

pub items_room-room_of-requires : goal.items_room-room_of-requires
items_room-room_of-requires t c =
    let ts : List Tree = c.as_slice-item-items.result.now in
    let same : ts ≡ c.args.items.now = c.as_slice-item-items.ensures in
    let s : tree_size c.item-item.result < trees_size (from_list c.args.items.now) =
    subst (λ (us : List Tree). tree_size c.item-item.result < trees_size (from_list us)) same
    (item_smaller ts c.loop-item.item-index c.item-item.result c.loop-item-test.true c.item-item.is) in
    let left = ap items_room (items_drop ts c.loop-item.item-index c.item-item.result c.loop-item-test.true c.item-item.is) in
    (omega arith, omega (arith, left, c.loop-item.invariant, c.requires))
