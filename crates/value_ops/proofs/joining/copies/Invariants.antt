use Rattle.std.proofs.Common.{◌≡◌, ◌++◌, take}
use Rattle.value_ops.proofs.joining.copies.Given as goal

-- the copies so far
abbrev pub invariant-loop-item : goal.invariant-loop-item
invariant-loop-item l = l.items.items ≡ take l.item-index l.left

-- all of the left, and the copies so far of the right
abbrev pub invariant-loop-item-2 : goal.invariant-loop-item-2
invariant-loop-item-2 l = l.items.items ≡ l.left ++ take l.item-index l.right
