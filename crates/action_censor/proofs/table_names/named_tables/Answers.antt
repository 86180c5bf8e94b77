use Rattle.std.proofs.Common.{[], map}
use Rattle.action_censor.specs.Step.{step_of}
use Rattle.action_censor.specs.Touched.{tables_told, with_names}
use Rattle.action_censor.proofs.NameLemmas.{step_noted}
use Rattle.action_censor.proofs.table_names.named_tables.Goals as goal

pub loop-step-preserved : goal.loop-step-preserved
loop-step-preserved c =
    step_noted c.args.steps.now c.loop-step.step-index c.step-item.result c.loop-step.names.items c.note_step.new.names.items (with_names [] (tables_told (map step_of c.args.steps.now)))
    c.loop-step-test.true c.step-item.is c.in_ok-note_step.ensures c.loop-step.invariant
