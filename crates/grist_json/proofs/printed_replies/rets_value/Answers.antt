use Rattle.std.proofs.Common.{◌∙◌, ap}
use Rattle.grist_json.specs.Replies.{ret_data}
use Rattle.grist_json.proofs.ShownLemmas.{shown_step, shown_all}
use Rattle.grist_json.proofs.printed_replies.rets_value.Goals as goal

pub loop-value-preserved : goal.loop-value-preserved
loop-value-preserved c = shown_step ret_data c.args.values.now c.loop-value.value-index c.value-item.result c.loop-value.shown.items c.push.new.self.items c.in_ok-ret_value.field-0 c.loop-value-test.true c.loop-value.invariant c.in_ok-push.ensures.items (c.in_ok-ret_value.ensures ∙ ap ret_data c.value-item.is)

pub returns : goal.returns
returns c = shown_all ret_data c.args.values.now c.loop-value.value-index c.loop-value.shown c.loop-value-test.false c.loop-value.invariant
