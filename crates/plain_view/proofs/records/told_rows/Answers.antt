use Rattle.doc_model.specs.Changes.{grid}
use Rattle.plain_view.proofs.CellIndexes.{rows_told_at}
use Rattle.plain_view.proofs.records.told_rows.Goals as goal

pub returns : goal.returns
returns c =
    let indexes = c.indexes_of-indexes in
    rows_told_at c.rows_told.result (grid c.args.before.now) (grid c.args.after.now) c.args.column.now indexes.result c.args.after.now.rows
    indexes.ensures.before indexes.ensures.after indexes.ensures.start c.rows_told.ensures
