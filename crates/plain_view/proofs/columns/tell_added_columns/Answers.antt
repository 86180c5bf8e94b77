use Rattle.plain_view.specs.Steps.{added_column}
use Rattle.plain_view.proofs.Steps.{each_next}
use Rattle.plain_view.proofs.columns.tell_added_columns.Goals as goal

pub loop-column-preserved : goal.loop-column-preserved
loop-column-preserved c =
    each_next (added_column c.args.table.now c.args.before.now) c.args.after.now c.loop-column.column-index c.column-item.result c.args.actions.now.items c.loop-column.actions.items c.tell_added.new.actions.items
    c.loop-column-test.true c.column-item.is c.loop-column.invariant c.in_ok-tell_added.ensures
