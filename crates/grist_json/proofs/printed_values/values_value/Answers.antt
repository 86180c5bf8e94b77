use Rattle.std.proofs.Common.{◌∙◌, ap}
use Rattle.grist_json.specs.Values.{value_data}
use Rattle.grist_json.proofs.ShownLemmas.{shown_step, shown_all}
use Rattle.grist_json.proofs.printed_values.values_value.Goals as goal

pub loop-value-preserved : goal.loop-value-preserved
loop-value-preserved c = shown_step value_data c.args.values.now c.loop-value.value-index c.value-item.result c.loop-value.shown.items c.push.new.self.items c.in_ok-value_value.field-0 c.loop-value-test.true c.loop-value.invariant c.in_ok-push.ensures.items (c.in_ok-value_value.ensures ∙ ap value_data c.value-item.is)

pub returns : goal.returns
returns c = shown_all value_data c.args.values.now c.loop-value.value-index c.loop-value.shown c.loop-value-test.false c.loop-value.invariant
