use Rattle.std.proofs.Common.{◌+◌, ◌≤◌}
use Rattle.recalc.specs.Evaluated.{sheet_of}
use Rattle.recalc.specs.Indexes.{AreIndexes}
use Rattle.recalc.proofs.Progress.{EachOf}
use Rattle.known_reads.specs.Known.{IsRead, KeepsReads}
use Rattle.known_reads.specs.Watched.{KeepsAllBut}
use Rattle.known_reads.proofs.recording.record_cells.Given as goal

abbrev pub invariant-loop-cell : goal.invariant-loop-cell
invariant-loop-cell g l = record {
  indexed : AreIndexes (sheet_of (g.D.DocReader.document l.tables)) l.indexes.items;
  keeps : KeepsReads (sheet_of (g.D.DocReader.document l.tables)) l.initial.graph l.graph;
  same : KeepsAllBut l.initial.graph l.graph l.cells;
  steps : l.steps ≤ l.initial.steps + l.cell-index;
  read : EachOf (IsRead (g.D.DocReader.document l.tables) l.graph) l.cells l.cell-index;
}
