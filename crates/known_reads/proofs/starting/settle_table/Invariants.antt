use Rattle.std.proofs.Common.{◌≡◌, ◌-◌, length}
use Rattle.doc_readers.specs.Parts.{grid_at}
use Rattle.recalc.specs.Evaluated.{cells_of_column, sheet_of}
use Rattle.recalc.specs.Indexes.{AreIndexes}
use Rattle.recalc.specs.Remembered.{IsRemembered}
use Rattle.recalc.proofs.Progress.{EachOf}
use Rattle.known_reads.specs.Walked.{AreHeld, IsWalked}
use Rattle.known_reads.proofs.starting.settle_table.Given as goal

abbrev pub invariant-loop-column : goal.invariant-loop-column
invariant-loop-column g l = record {
  walked : IsWalked (g.D.DocReader.document l.tables) l.initial.kept.items l.initial.reads l.initial.steps l.kept.items l.reads l.steps;
  known : EachOf (λ d. AreHeld (g.D.DocReader.document l.tables) l.kept.items (cells_of_column l.table (grid_at (g.D.DocReader.document l.tables) l.table) d))
      (grid_at (g.D.DocReader.document l.tables) l.table).columns l.index;
  owed : l.reads.owed ≡ l.initial.reads.owed;
  indexed : AreIndexes (sheet_of (g.D.DocReader.document l.tables)) l.indexes.items;
  remembered : IsRemembered (sheet_of (g.D.DocReader.document l.tables)) l.last;
}

abbrev pub decreases-loop-column : goal.decreases-loop-column
decreases-loop-column g l = length (grid_at (g.D.DocReader.document l.tables) l.table).columns - l.index
