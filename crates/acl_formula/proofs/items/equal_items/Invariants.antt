use Rattle.std.proofs.Common.{◌≡◌, drop}
use Rattle.std.specs.Cmp.Lexicographic.{pointwise}
use Rattle.value_ops.specs.Equality.{is_equal_item}
use Rattle.acl_formula.specs.Desk.{items_in}
use Rattle.acl_formula.proofs.items.equal_items.Given as goal

-- the items before this place are equal
abbrev pub invariant-loop-place : goal.invariant-loop-place
invariant-loop-place l =
    pointwise is_equal_item (drop l.place (items_in l.desk l.left)) (drop l.place (items_in l.desk l.right))
    ≡ pointwise is_equal_item (items_in l.desk l.left) (items_in l.desk l.right)
