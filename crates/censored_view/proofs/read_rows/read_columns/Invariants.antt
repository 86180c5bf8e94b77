use Rattle.censored_view.specs.ReadRows.{AreRead}
use Rattle.censored_view.proofs.read_rows.read_columns.Given as goal

-- the columns so far
abbrev pub invariant-loop-column : goal.invariant-loop-column
invariant-loop-column g l = AreRead (g.D.DocReader.document l.tables) l.table l.rows l.read.items
