use Rattle.std.proofs.Common.{take}
use Rattle.std.specs.List.{flat_map}
use Rattle.action_censor.specs.Step.{step_of}
use Rattle.shot_changes.specs.NotedCells.{Adds, step_cells}
use Rattle.shot_changes.proofs.noting.note_steps.Given as goal

-- the cells of the steps so far
abbrev pub invariant-loop-step : goal.invariant-loop-step
invariant-loop-step g l =
    Adds (g.E.DocReader.document l.evaluated) (flat_map (λ k. step_cells (g.E.DocReader.document l.evaluated) (step_of k)) (take l.step-index l.steps)) l.initial.changes l.changes
