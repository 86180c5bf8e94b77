use Rattle.std.proofs.Common.{◌≡◌}
use Rattle.recalc.specs.Cells.{cell_of}
use Rattle.recalc.specs.Evaluated.{sheet_of}
use Rattle.recalc.specs.Indexes.{AreIndexes}
use Rattle.recalc.specs.Remembered.{IsRemembered}
use Rattle.recalc.proofs.Progress.{EachOf}
use Rattle.affected_values.specs.Taken.{IsHeldWhere}
use Rattle.known_reads.specs.Walked.{IsWalked}
use Rattle.known_reads.proofs.starting.settle_column.Given as goal

abbrev pub invariant-loop-row : goal.invariant-loop-row
invariant-loop-row g l = record {
  walked : IsWalked (g.D.DocReader.document l.tables) l.initial.kept.items l.initial.reads l.initial.steps l.kept.items l.reads l.steps;
  known : EachOf (λ r. IsHeldWhere (g.D.DocReader.document l.tables) l.kept.items (cell_of l.table l.column.id r)) l.row-items l.row-index;
  owed : l.reads.owed ≡ l.initial.reads.owed;
  indexed : AreIndexes (sheet_of (g.D.DocReader.document l.tables)) l.indexes.items;
  remembered : IsRemembered (sheet_of (g.D.DocReader.document l.tables)) l.last;
  table : l.cell.table ≡ l.table;
  column : l.cell.column ≡ l.column.id;
}
