use Rattle.doc_readers.specs.Parts.{grid_at}
use Rattle.user_actions.proofs.UpdateLemmas.{no_update, one_update}
use Rattle.user_actions.proofs.cell_updates.add_update.Goals as goal

pub returns-then-is_empty : goal.returns-then-is_empty
returns-then-is_empty g c = λ f h.
    no_update c.args.table.now (grid_at (g.D.DocReader.document c.args.tables.now) c.args.table.now) c.args.column.now f c.args.rows.now c.args.steps.now c.in_ok-changed.changed.rows
    (c.in_ok-changed.ensures f h).0 (c.is_empty.ensures.0 c.if-is_empty.true)

pub returns : goal.returns
returns g c = λ f h.
    let made = c.in_ok-changed.ensures f h in
    one_update c.args.table.now (grid_at (g.D.DocReader.document c.args.tables.now) c.args.table.now) c.args.column.now f c.args.rows.now c.args.steps.now c.in_ok-changed.changed.rows
    made.0 c.in_ok-changed.changed.values made.1 c.if-is_empty.ensures.1 c.in_ok-step.step c.push.new.self c.in_ok-step.ensures c.in_ok-push.ensures.ok
