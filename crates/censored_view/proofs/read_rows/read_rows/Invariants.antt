use Rattle.std.proofs.Common.{◌≡◌, map, take}
use Rattle.censored_view.specs.ReadRows.{read_told}
use Rattle.censored_view.specs.Rows.{rows_at}
use Rattle.censored_view.proofs.read_rows.read_rows.Given as goal

-- the rows so far
abbrev pub invariant-loop-row : goal.invariant-loop-row
invariant-loop-row g l =
    (map (read_told g.D.DocReader.document) l.read.items ≡ rows_at (g.D.DocReader.document l.tables) l.table (take l.row-index l.rows))
    × (l.place ≡ l.row-index)
