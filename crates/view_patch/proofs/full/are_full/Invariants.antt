use Rattle.std.proofs.Common.{take}
use Rattle.std.specs.List.{AllByRecursion}
use Rattle.view_patch.specs.Given.{IsFull}
use Rattle.view_patch.proofs.full.are_full.Given as goal

abbrev pub invariant-loop-action : goal.invariant-loop-action
invariant-loop-action l = AllByRecursion IsFull (take l.action-index l.actions)
