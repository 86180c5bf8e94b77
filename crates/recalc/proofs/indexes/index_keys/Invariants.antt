use Rattle.recalc.specs.Evaluated.{sheet_of}
use Rattle.recalc.specs.Indexes.{AreIndexes}
use Rattle.recalc.proofs.indexes.index_keys.Given as goal

abbrev pub invariant-loop-key : goal.invariant-loop-key
invariant-loop-key g l = AreIndexes (sheet_of (g.D.DocReader.document l.tables)) l.indexes.items
