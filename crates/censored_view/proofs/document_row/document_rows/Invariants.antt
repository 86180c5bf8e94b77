use Rattle.std.proofs.Common.{◌≡◌, map, take}
use Rattle.censored_view.specs.Rows.{row_told, rows_at}
use Rattle.censored_view.proofs.document_row.document_rows.Given as goal

-- the rows so far
abbrev pub invariant-loop-row : goal.invariant-loop-row
invariant-loop-row g l = map (row_told g.D.DocReader.document) l.read.items ≡ rows_at (g.D.DocReader.document l.tables) l.table (take l.row-index l.rows)
