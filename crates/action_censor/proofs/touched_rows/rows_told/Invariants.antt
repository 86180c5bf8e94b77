use Rattle.std.proofs.Common.{◌≡◌, ◌++◌, map, drop}
use Rattle.action_censor.specs.Step.{step_of}
use Rattle.action_censor.specs.Touched.{rows_told}
use Rattle.action_censor.proofs.touched_rows.rows_told.Given as goal

-- the rows so far, with those that are left
abbrev pub invariant-loop-step : goal.invariant-loop-step
invariant-loop-step l = l.rows.items ++ rows_told (map step_of (drop l.step-index l.steps)) l.id ≡ rows_told (map step_of l.steps) l.id
