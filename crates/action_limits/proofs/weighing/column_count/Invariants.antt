use Rattle.std.proofs.Common.{◌≤◌, ◌-◌, length}
use Rattle.doc_readers.specs.Parts.{grid_at}
use Rattle.action_limits.proofs.weighing.column_count.Given as goal

-- the index is that of a column or behind them
abbrev pub invariant-loop-column : goal.invariant-loop-column
invariant-loop-column g l = l.index ≤ length (grid_at (g.D.DocReader.document l.tables) l.table).columns

abbrev pub decreases-loop-column : goal.decreases-loop-column
decreases-loop-column g l = length (grid_at (g.D.DocReader.document l.tables) l.table).columns - l.index
