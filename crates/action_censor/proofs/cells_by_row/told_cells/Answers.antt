use Rattle.action_censor.specs.ToldCells.{cells_at}
use Rattle.action_censor.proofs.CellLemmas.{steps_next}
use Rattle.action_censor.proofs.cells_by_row.told_cells.Goals as goal

pub loop-step-preserved : goal.loop-step-preserved
loop-step-preserved c = λ r.
    steps_next c.args.id.now r c.args.steps.now c.loop-step.step-index c.step-item.result (cells_at c.loop-step.noted r) (cells_at c.note_step.new.noted r)
    c.loop-step-test.true c.step-item.is (c.loop-step.invariant r) (c.in_ok-note_step.ensures r)
