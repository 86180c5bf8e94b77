use Rattle.std.proofs.Common.{◌≡◌, map, take}
use Rattle.action_censor.specs.Step.{step_of}
use Rattle.bundle_judge.specs.Losses.{cells_told}
use Rattle.bundle_core.specs.Followed.{with_cells}
use Rattle.bundle_core.proofs.followed.steps_told.Given as goal

abbrev pub invariant-loop-index : goal.invariant-loop-index
invariant-loop-index g l = map step_of l.steps.items ≡ with_cells (take l.index l.actions) (take l.index (cells_told l.traces))
