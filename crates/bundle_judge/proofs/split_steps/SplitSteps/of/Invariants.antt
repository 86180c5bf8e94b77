use Rattle.std.proofs.Common.{◌≡◌, ◌++◌, length, reverse}
use Rattle.bundle_judge.specs.SplitSteps.{joined}
use Rattle.bundle_judge.proofs.split_steps.SplitSteps.of.Given as goal

abbrev pub invariant-loop-step : goal.invariant-loop-step
invariant-loop-step l =
    (joined l.actions.items l.marks.items ++ reverse l.left.items ≡ reverse l.initial.left.items)
    × (length l.actions.items ≡ length l.marks.items)

abbrev pub decreases-loop-step : goal.decreases-loop-step
decreases-loop-step l = length l.left.items
