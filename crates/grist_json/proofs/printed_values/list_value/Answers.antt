use Rattle.std.proofs.Common.{codes, ◌∙◌, ap}
use Rattle.serde_json.specs.Data.{string}
use Rattle.grist_json.specs.Values.{item_data}
use Rattle.grist_json.proofs.ShownLemmas.{marked_step, marked_all}
use Rattle.grist_json.proofs.printed_values.list_value.Goals as goal

pub loop-item-preserved : goal.loop-item-preserved
loop-item-preserved c = marked_step (string (codes "L")) item_data c.args.items.now c.loop-item.item-index c.item-item.result c.loop-item.values.items c.push.new.self.items c.in_ok-item_value.field-0 c.loop-item-test.true c.loop-item.invariant c.in_ok-push.ensures.items (c.in_ok-item_value.ensures ∙ ap item_data c.item-item.is)

pub returns : goal.returns
returns c = marked_all (string (codes "L")) item_data c.args.items.now c.loop-item.item-index c.loop-item.values c.loop-item-test.false c.loop-item.invariant
