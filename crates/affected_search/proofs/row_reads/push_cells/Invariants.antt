use Rattle.std.proofs.Common.{◌≡◌, ◌++◌, drop}
use Rattle.doc_model.specs.Column.{column_id}
use Rattle.doc_model.specs.Grid.{cell}
use Rattle.doc_readers.specs.Parts.{grid_at}
use Rattle.affected_search.specs.RowValues.{cells_values}
use Rattle.affected_search.proofs.row_reads.push_cells.Given as goal

-- the values so far, and those that are to come
abbrev pub invariant-loop-row : goal.invariant-loop-row
invariant-loop-row g l =
    l.reads.items ++ cells_values l.number l.column.info.ty (cell column_id (grid_at (g.R.DocReader.document l.tables) l.table) l.column.id) (drop l.row-index l.rows)
    ≡ l.fn.reads.items ++ cells_values l.number l.column.info.ty (cell column_id (grid_at (g.R.DocReader.document l.tables) l.table) l.column.id) l.rows
