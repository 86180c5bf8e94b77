use Rattle.std.proofs.Common.{take}
use Rattle.recalc.specs.Evaluated.{sheet_of}
use Rattle.recalc.specs.Indexes.{AreUnder}
use Rattle.recalc.proofs.indexes.index_of.Given as goal

-- the rows so far are under their buckets
abbrev pub invariant-loop-row : goal.invariant-loop-row
invariant-loop-row g l =
    AreUnder (sheet_of (g.D.DocReader.document l.tables)) l.table l.column.id l.column.info.ty l.index (take l.row-index l.row-items)
