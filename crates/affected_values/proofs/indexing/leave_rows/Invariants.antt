use Rattle.std.proofs.Common.{take}
use Rattle.recalc.specs.Evaluated.{sheet_of}
use Rattle.affected_values.specs.Indexing.{IsIndexBut}
use Rattle.affected_values.proofs.indexing.leave_rows.Given as goal

-- the rows so far are taken out
abbrev pub invariant-loop-row : goal.invariant-loop-row
invariant-loop-row g l =
    IsIndexBut (sheet_of (g.D.DocReader.document l.tables)) (take l.row-index l.rows) l.table l.column.id l.index
