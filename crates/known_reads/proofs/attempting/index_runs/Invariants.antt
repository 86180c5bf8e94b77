use Rattle.recalc.specs.Evaluated.{sheet_of}
use Rattle.recalc.specs.Indexes.{AreIndexes}
use Rattle.known_reads.proofs.attempting.index_runs.Given as goal

abbrev pub invariant-loop-run : goal.invariant-loop-run
invariant-loop-run g l = AreIndexes (sheet_of (g.D.DocReader.document l.tables)) l.indexes.items
