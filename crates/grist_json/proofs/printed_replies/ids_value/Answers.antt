use Rattle.std.proofs.Common.{None}
use Rattle.grist_json.specs.Replies.{id_data}
use Rattle.grist_json.proofs.ShownLemmas.{shown_step, shown_all}
use Rattle.grist_json.proofs.printed_replies.ids_value.Goals as goal

pub loop-id-preserved : goal.loop-id-preserved
loop-id-preserved c = shown_step id_data c.args.ids.now c.loop-id.id-index None c.loop-id.values.items c.push.new.self.items c.id_value.result c.loop-id-test.true c.loop-id.invariant c.in_ok-push.ensures.items c.id_value.ensures

pub returns : goal.returns
returns c = shown_all id_data c.args.ids.now c.loop-id.id-index c.loop-id.values c.loop-id-test.false c.loop-id.invariant
