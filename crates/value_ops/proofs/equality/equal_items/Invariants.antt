use Rattle.std.proofs.Common.{◌≡◌, drop}
use Rattle.std.specs.Cmp.Lexicographic.{pointwise}
use Rattle.value_ops.specs.Equality.{is_equal_item}
use Rattle.value_ops.proofs.equality.equal_items.Given as goal

-- the items before this index are equal
abbrev pub invariant-loop-index : goal.invariant-loop-index
invariant-loop-index l =
    pointwise is_equal_item (drop l.index l.left) (drop l.index l.right) ≡ pointwise is_equal_item l.left l.right
