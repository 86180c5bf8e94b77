use Rattle.recalc.specs.Evaluated.{sheet_of}
use Rattle.recalc.specs.Indexes.{AreIndexes}
use Rattle.recalc.proofs.indexes.index_lookups.Given as goal

abbrev pub invariant-loop-note : goal.invariant-loop-note
invariant-loop-note g l = AreIndexes (sheet_of (g.D.DocReader.document l.tables)) l.indexes.items
