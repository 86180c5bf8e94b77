use Rattle.doc_readers.specs.Parts.{grid_at}
use Rattle.user_actions.specs.Steps.{fitted}
use Rattle.doc_model.proofs.Walks.{map_step}
use Rattle.user_actions.proofs.record_steps.all_fitted.Goals as goal

pub loop-column-preserved : goal.loop-column-preserved
loop-column-preserved g c =
    map_step (fitted (grid_at (g.D.DocReader.document c.args.tables.now) c.args.table.now)) c.args.columns.now c.loop-column.column-index c.column-item.result
    c.loop-column.made.items c.push.new.self.items c.in_ok-fitted.field-0 c.loop-column-test.true c.column-item.is c.loop-column.invariant c.in_ok-push.ensures.items c.in_ok-fitted.ensures
