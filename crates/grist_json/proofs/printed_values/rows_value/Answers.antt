use Rattle.action_lines.specs.Numbers.{row_data}
use Rattle.grist_json.proofs.ShownLemmas.{shown_step, shown_all}
use Rattle.grist_json.proofs.printed_values.rows_value.Goals as goal

pub loop-row-preserved : goal.loop-row-preserved
loop-row-preserved c = shown_step row_data c.args.rows.now c.loop-row.row-index 0 c.loop-row.values.items c.push.new.self.items c.from.result c.loop-row-test.true c.loop-row.invariant c.in_ok-push.ensures.items c.from.ensures

pub returns : goal.returns
returns c = shown_all row_data c.args.rows.now c.loop-row.row-index c.loop-row.values c.loop-row-test.false c.loop-row.invariant
