use Rattle.doc_model.specs.ViewEdits.{IsShown}
use Rattle.doc_model.specs.Changes.{grid, revised}
use Rattle.plain_view.proofs.Steps.{each_item, each_next}
use Rattle.plain_view.proofs.view_changes.tell_revised_tables.Goals as goal

pub tell_revised-requires-clause-table : goal.tell_revised-requires-clause-table
tell_revised-requires-clause-table c = each_item (λ t. IsShown (grid t)) c.args.after.now c.loop-table.table-index c.table-item.result c.requires.after c.loop-table-test.true c.table-item.is

pub loop-table-preserved : goal.loop-table-preserved
loop-table-preserved c =
    each_next (revised c.args.before.now) c.args.after.now c.loop-table.table-index c.table-item.result c.args.actions.now.items c.loop-table.actions.items c.tell_revised.new.actions.items
    c.loop-table-test.true c.table-item.is c.loop-table.invariant c.in_ok-tell_revised.ensures
