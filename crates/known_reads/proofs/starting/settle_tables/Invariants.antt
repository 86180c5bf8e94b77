use Rattle.std.proofs.Common.{◌≡◌, ◌-◌, length}
use Rattle.recalc.specs.Evaluated.{sheet_of}
use Rattle.recalc.specs.Indexes.{AreIndexes}
use Rattle.recalc.specs.Remembered.{IsRemembered}
use Rattle.recalc.proofs.Progress.{EachOf, cells_of_table}
use Rattle.known_reads.specs.Walked.{AreHeld, IsWalked}
use Rattle.known_reads.proofs.starting.settle_tables.Given as goal

abbrev pub invariant-loop-table : goal.invariant-loop-table
invariant-loop-table g l = record {
  walked : IsWalked (g.D.DocReader.document l.tables) l.initial.kept.items l.initial.reads l.initial.steps l.kept.items l.reads l.steps;
  known : EachOf (λ t. AreHeld (g.D.DocReader.document l.tables) l.kept.items (cells_of_table t)) (g.D.DocReader.document l.tables) l.index;
  owed : l.reads.owed ≡ l.initial.reads.owed;
  indexed : AreIndexes (sheet_of (g.D.DocReader.document l.tables)) l.indexes.items;
  remembered : IsRemembered (sheet_of (g.D.DocReader.document l.tables)) l.last;
}

abbrev pub decreases-loop-table : goal.decreases-loop-table
decreases-loop-table g l = length (g.D.DocReader.document l.tables) - l.index
