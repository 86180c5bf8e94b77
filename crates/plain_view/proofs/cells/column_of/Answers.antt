use Rattle.std.proofs.Common.{ap, ◌∙◌}
use Rattle.doc_model.specs.Changes.{grid}
use Rattle.plain_view.specs.Cells.{column_index}
use Rattle.plain_view.proofs.CellIndexes.{column_at_index}
use Rattle.plain_view.proofs.cells.column_of.Goals as goal

pub returns : goal.returns
returns c =
    let id = c.args.id.now in
    column_at_index (grid c.args.table.now) c.args.rows.now id c.in_ok-id.id c.index_of-index.result c.in_ok-values.values
    (c.index_of-index.ensures ∙ ap (λ l. column_index l id) c.as_slice.ensures) c.in_ok-id.ensures c.in_ok-values.ensures
