use Rattle.std.proofs.Common.{◌≡◌, ◌-◌, length, map, take}
use Rattle.doc_readers.specs.Parts.{grid_at}
use Rattle.recalc.specs.Kept.{blank_column, column_part}
use Rattle.recalc.proofs.blank.blank_columns.Given as goal

abbrev pub invariant-loop-column : goal.invariant-loop-column
invariant-loop-column g l =
    map column_part l.columns.items ≡ map (blank_column (grid_at (g.D.DocReader.document l.tables) l.table).rows) (take (length l.columns.items) (grid_at (g.D.DocReader.document l.tables) l.table).columns)

abbrev pub decreases-loop-column : goal.decreases-loop-column
decreases-loop-column g l = length (grid_at (g.D.DocReader.document l.tables) l.table).columns - length l.columns.items
