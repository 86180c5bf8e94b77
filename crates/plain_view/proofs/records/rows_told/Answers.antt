use Rattle.doc_model.specs.Changes.{grid}
use Rattle.plain_view.specs.Told.{is_told_at}
use Rattle.plain_view.proofs.Steps.{filter_next}
use Rattle.plain_view.proofs.records.rows_told.Goals as goal

pub loop-row-preserved : goal.loop-row-preserved
loop-row-preserved c =
    filter_next (is_told_at (grid c.args.before.now) (grid c.args.after.now) c.args.indexes.now) c.as_slice-row-items.result.now c.args.after.now.rows c.loop-row.row-index
    c.is_told.result c.loop-row.rows.items c.push_if.new.rows.items
    c.as_slice-row-items.ensures c.loop-row-test.true c.loop-row.invariant c.is_told.ensures c.in_ok-push_if.ensures
