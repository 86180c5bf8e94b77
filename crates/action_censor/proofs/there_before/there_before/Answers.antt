use Rattle.std.proofs.Common.{nat_eq}
use Rattle.std.specs.HashMap.{get}
use Rattle.action_censor.proofs.ThereLemmas.{there_next}
use Rattle.action_censor.proofs.there_before.there_before.Goals as goal

pub loop-step-preserved : goal.loop-step-preserved
loop-step-preserved c = λ r.
    there_next c.args.id.now r c.args.steps.now c.loop-step.step-index c.step-item.result (get nat_eq c.loop-step.noted r) (get nat_eq c.note_action.new.noted r)
    c.loop-step-test.true c.step-item.is (c.loop-step.invariant r) (c.in_ok-note_action.ensures r)
