use Rattle.std.proofs.Common.{◌<◌, length, get_or, ap, subst, ◌∙◌}
use Rattle.doc_model.specs.Changes.{grid}
use Rattle.plain_view.specs.Steps.{updated_column}
use Rattle.plain_view.proofs.Steps.{each_next}
use Rattle.plain_view.proofs.records.tell_updated_cells.Goals as goal

pub loop-column-preserved : goal.loop-column-preserved
loop-column-preserved c =
    let i = c.loop-column.column-index in
    let d = c.column-item.result in
    each_next (updated_column c.args.after.now.id (grid c.args.before.now) (grid c.args.after.now)) c.args.after.now.columns i d c.args.actions.now.items c.loop-column.actions.items c.tell_updated.new.actions.items
    (subst (λ l. i < length l) c.as_slice-column-items.ensures c.loop-column-test.true) (c.column-item.is ∙ ap (λ l. get_or l i d) c.as_slice-column-items.ensures)
    c.loop-column.invariant c.in_ok-tell_updated.ensures
