use Rattle.std.proofs.Common.{◌≡◌}
use Rattle.known_reads.specs.Walked.{IsWalked}
use Rattle.known_reads.proofs.levels.settle_rows.Given as goal

abbrev pub invariant-loop-slice : goal.invariant-loop-slice
invariant-loop-slice g l = record {
  walked : IsWalked (g.D.DocReader.document l.tables) l.initial.evaluated.kept.items l.initial.evaluated.reads l.initial.steps l.evaluated.kept.items l.evaluated.reads l.steps;
  indexes : l.evaluated.indexes ≡ l.initial.evaluated.indexes;
}
