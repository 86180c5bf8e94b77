use Rattle.plain_view.specs.Steps.{removed_table}
use Rattle.plain_view.proofs.Steps.{each_next}
use Rattle.plain_view.proofs.view_changes.tell_removed_tables.Goals as goal

pub loop-table-preserved : goal.loop-table-preserved
loop-table-preserved c =
    each_next (removed_table c.args.after.now) c.args.before.now c.loop-table.table-index c.table-item.result c.args.actions.now.items c.loop-table.actions.items c.tell_removed.new.actions.items
    c.loop-table-test.true c.table-item.is c.loop-table.invariant c.in_ok-tell_removed.ensures
