use Rattle.std.proofs.Common.{◌≡◌, ◌≤◌, ◌+◌, ◌*◌, Some, drop, take, length}
use Rattle.formula_parse.specs.Tree.{from_list}
use Rattle.formula_parse.specs.TreeSize.{tree_size, trees_size}
use Rattle.acl_formula.specs.Asked.{asked_by}
use Rattle.acl_formula.specs.Desk.{between, items_in}
use Rattle.acl_formula.specs.DeskRules.{AreGood}
use Rattle.acl_formula.specs.Room.{items_room}
use Rattle.acl_formula.specs.RuleValue.{items_of, followed}
use Rattle.acl_formula.proofs.evaluation.+value.Given as goal

abbrev pub decreases-value_of : goal.decreases-value_of
decreases-value_of g l = 2 * tree_size l.tree.now

abbrev pub decreases-either : goal.decreases-either
decreases-either g l = 2 * (tree_size l.left.now + tree_size l.right.now) + 1

abbrev pub decreases-both : goal.decreases-both
decreases-both g l = 2 * (tree_size l.left.now + tree_size l.right.now) + 1

abbrev pub decreases-joined : goal.decreases-joined
decreases-joined g l = 2 * (tree_size l.left.now + tree_size l.right.now) + 1

abbrev pub decreases-of_values : goal.decreases-of_values
decreases-of_values g l = 2 * (tree_size l.left.now + tree_size l.right.now) + 1

abbrev pub decreases-behind : goal.decreases-behind
decreases-behind g l = 2 * tree_size l.inner.now + 1

abbrev pub decreases-listed : goal.decreases-listed
decreases-listed g l = 2 * trees_size (from_list l.items.now) + 1

abbrev pub decreases-item_put : goal.decreases-item_put
decreases-item_put g l = 2 * tree_size l.item.now + 1

-- the items so far lie between the list's place and the end, and the room is enough for the others
abbrev pub invariant-listed-loop-item : goal.invariant-listed-loop-item
invariant-listed-loop-item g l =
    (take l.at l.desk ≡ take l.at l.fn.desk)
    × (length l.desk ≡ length l.fn.desk)
    × (l.at ≤ l.end)
    × (l.end + items_room (from_list (drop l.item-index l.item-items)) ≤ l.at + items_room (from_list l.items))
    × (items_of (asked_by g.W.RowReader.told l.user l.before l.after) (from_list l.items)
    ≡ followed (Some (items_in l.desk (between l.at l.end l.desk))) (items_of (asked_by g.W.RowReader.told l.user l.before l.after) (from_list (drop l.item-index l.item-items))))
    × AreGood l.desk l.end (between l.at l.end l.desk)
    × (l.len ≡ length (items_in l.desk (between l.at l.end l.desk)))
    × (l.len + l.at ≤ l.end)
