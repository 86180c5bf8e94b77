use Rattle.std.proofs.Common.{◌≡◌, ℕ, map, take}
use Rattle.action_censor.specs.Step.{step_of}
use Rattle.action_censor.specs.ToldCells.{cells_at, told_of_row}
use Rattle.action_censor.proofs.cells_by_row.told_cells.Given as goal

-- the cells so far, under each row
abbrev pub invariant-loop-step : goal.invariant-loop-step
invariant-loop-step l = (r : ℕ) → cells_at l.noted r ≡ told_of_row (map step_of (take l.step-index l.steps)) l.id r
