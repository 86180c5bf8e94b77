use Rattle.plain_view.specs.Steps.{removed_column}
use Rattle.plain_view.proofs.Steps.{each_next}
use Rattle.plain_view.proofs.columns.tell_removed_columns.Goals as goal

pub loop-column-preserved : goal.loop-column-preserved
loop-column-preserved c =
    each_next (removed_column c.args.table.now c.args.after.now) c.args.before.now c.loop-column.column-index c.column-item.result c.args.actions.now.items c.loop-column.actions.items c.tell_removed.new.actions.items
    c.loop-column-test.true c.column-item.is c.loop-column.invariant c.in_ok-tell_removed.ensures
