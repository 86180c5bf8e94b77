use Rattle.std.proofs.Common.{◌≡◌, ◌-◌, length, map, take}
use Rattle.doc_model.specs.Column.{column_row}
use Rattle.doc_readers.specs.Parts.{grid_at}
use Rattle.affected_search.proofs.described.columns_described.Given as goal

-- the rows so far
abbrev pub invariant-loop-column : goal.invariant-loop-column
invariant-loop-column g l = l.rows.items ≡ map column_row (take (length l.rows.items) (grid_at (g.R.DocReader.document l.tables) l.table).columns)

abbrev pub decreases-loop-column : goal.decreases-loop-column
decreases-loop-column g l = length (grid_at (g.R.DocReader.document l.tables) l.table).columns - length l.rows.items
