use Rattle.std.proofs.Common.{◌≡◌, ◌-◌, ◌++◌, length, drop}
use Rattle.doc_readers.specs.Parts.{grid_at}
use Rattle.affected_search.specs.RowValues.{columns_values}
use Rattle.affected_search.proofs.row_reads.push_columns.Given as goal

-- the columns so far, and those that are to come
abbrev pub invariant-loop-column : goal.invariant-loop-column
invariant-loop-column g l =
    l.reads.items ++ columns_values l.graph.names l.table (grid_at (g.R.DocReader.document l.tables) l.table) l.rows (drop l.index (grid_at (g.R.DocReader.document l.tables) l.table).columns)
    ≡ l.fn.reads.items ++ columns_values l.graph.names l.table (grid_at (g.R.DocReader.document l.tables) l.table) l.rows (grid_at (g.R.DocReader.document l.tables) l.table).columns

abbrev pub decreases-loop-column : goal.decreases-loop-column
decreases-loop-column g l = length (grid_at (g.R.DocReader.document l.tables) l.table).columns - l.index
