use Rattle.std.proofs.Common.{◌∙◌, ap}
use Rattle.grist_json.proofs.ShownLemmas.{shown_step, shown_all}
use Rattle.record_lines.specs.Printed.{doc_action_data}
use Rattle.record_lines.proofs.printed.actions_value.Goals as goal

pub loop-action-preserved : goal.loop-action-preserved
loop-action-preserved c = shown_step doc_action_data c.args.actions.now c.loop-action.action-index c.action-item.result c.loop-action.values.items c.push.new.self.items c.in_ok-action_value.field-0 c.loop-action-test.true c.loop-action.invariant c.in_ok-push.ensures.items (c.in_ok-action_value.ensures ∙ ap doc_action_data c.action-item.is)

pub returns : goal.returns
returns c = shown_all doc_action_data c.args.actions.now c.loop-action.action-index c.loop-action.values c.loop-action-test.false c.loop-action.invariant
