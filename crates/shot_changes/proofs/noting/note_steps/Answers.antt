use Rattle.std.proofs.Common.{arith, sym, subst}
use Rattle.std.proofs.lemmas.List.Folds.{flat_map-map}
use Rattle.action_censor.specs.Step.{step_of}
use Rattle.shot_changes.specs.NotedCells.{Adds, step_cells}
use Rattle.shot_changes.proofs.AddsLemmas.{adds_end}
use Rattle.shot_changes.proofs.noting.note_steps.Goals as goal

pub returns : goal.returns
returns g c =
    let d = g.E.DocReader.document c.args.evaluated.now in
    subst (λ l. Adds d l c.args.changes.now c.loop-step.changes) (sym (flat_map-map (step_cells d) step_of c.args.steps.now))
    (adds_end d (λ k. step_cells d (step_of k)) c.args.steps.now c.args.changes.now c.loop-step.step-index c.loop-step.changes (omega (arith, c.loop-step-test.false)) c.loop-step.invariant)
