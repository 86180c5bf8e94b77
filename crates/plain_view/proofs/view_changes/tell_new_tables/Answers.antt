use Rattle.doc_model.specs.ViewEdits.{IsShown}
use Rattle.doc_model.specs.Changes.{grid}
use Rattle.plain_view.specs.Steps.{new_table}
use Rattle.plain_view.proofs.Steps.{each_item, each_next}
use Rattle.plain_view.proofs.view_changes.tell_new_tables.Goals as goal

pub tell_new-requires : goal.tell_new-requires
tell_new-requires c = each_item (λ t. IsShown (grid t)) c.args.after.now c.loop-table.table-index c.table-item.result c.requires c.loop-table-test.true c.table-item.is

pub loop-table-preserved : goal.loop-table-preserved
loop-table-preserved c =
    each_next (new_table c.args.before.now) c.args.after.now c.loop-table.table-index c.table-item.result c.args.actions.now.items c.loop-table.actions.items c.tell_new.new.actions.items
    c.loop-table-test.true c.table-item.is c.loop-table.invariant c.in_ok-tell_new.ensures
