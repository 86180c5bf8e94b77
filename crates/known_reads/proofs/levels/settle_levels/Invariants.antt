use Rattle.recalc.specs.Evaluated.{sheet_of}
use Rattle.recalc.specs.Indexes.{AreIndexes}
use Rattle.known_reads.specs.Walked.{IsWalked}
use Rattle.known_reads.proofs.levels.settle_levels.Given as goal

abbrev pub invariant-loop-level : goal.invariant-loop-level
invariant-loop-level g l = record {
  walked : IsWalked (g.D.DocReader.document l.tables) l.initial.evaluated.kept.items l.initial.evaluated.reads l.initial.steps l.evaluated.kept.items l.evaluated.reads l.steps;
  indexed : AreIndexes (sheet_of (g.D.DocReader.document l.tables)) l.evaluated.indexes.items;
}
