use Rattle.std.proofs.Common.{◌∙◌, ap}
use Rattle.grist_json.proofs.ShownLemmas.{shown_step, shown_all}
use Rattle.record_lines.specs.Infos.{column_data}
use Rattle.record_lines.proofs.printed.columns_value.Goals as goal

pub loop-column-preserved : goal.loop-column-preserved
loop-column-preserved c = shown_step column_data c.args.columns.now c.loop-column.column-index c.column-item.result c.loop-column.values.items c.push.new.self.items c.in_ok-column_value.field-0 c.loop-column-test.true c.loop-column.invariant c.in_ok-push.ensures.items (c.in_ok-column_value.ensures ∙ ap column_data c.column-item.is)

pub returns : goal.returns
returns c = shown_all column_data c.args.columns.now c.loop-column.column-index c.loop-column.values c.loop-column-test.false c.loop-column.invariant
