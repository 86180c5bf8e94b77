use Rattle.recalc.specs.Evaluated.{sheet_of}
use Rattle.recalc.specs.Remembered.{IsRemembered}
use Rattle.known_reads.proofs.attempting.remember_runs.Given as goal

abbrev pub invariant-loop-run : goal.invariant-loop-run
invariant-loop-run g l = IsRemembered (sheet_of (g.D.DocReader.document l.tables)) l.last
