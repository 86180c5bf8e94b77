use Rattle.doc_readers.specs.Parts.{grid_at}
use Rattle.recalc.specs.Evaluated.{sheet_of}
use Rattle.affected_values.proofs.LeftIndexes.{IsFilling}
use Rattle.affected_values.proofs.indexing.enter_rows.Given as goal

-- the rows so far are put in, where they are there
abbrev pub invariant-loop-row : goal.invariant-loop-row
invariant-loop-row g l =
    IsFilling (sheet_of (g.D.DocReader.document l.tables)) l.table l.column.id l.column.info.ty l.index (grid_at (g.D.DocReader.document l.tables) l.table).rows l.rows l.row-index
