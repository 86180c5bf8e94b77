use Rattle.std.proofs.Common.{◌≡◌}
use Rattle.recalc.specs.Evaluated.{sheet_of}
use Rattle.recalc.proofs.Progress.{EachOf}
use Rattle.known_reads.specs.Known.{KeepsReads}
use Rattle.known_reads.specs.Watched.{IsGoneNoted, IsWatched}
use Rattle.known_reads.proofs.KnownLemmas.{IsReadPlain}
use Rattle.known_reads.proofs.beside.KnownReads.forget_plain.Given as goal

abbrev pub invariant-loop-cell : goal.invariant-loop-cell
invariant-loop-cell g l = record {
  keeps : KeepsReads (sheet_of (g.D.DocReader.document l.tables)) l.initial.self.graph l.self.graph;
  list : l.self.stale ≡ l.initial.self.stale;
  watched : IsWatched l.initial.self l.self;
  read : EachOf (IsReadPlain (g.D.DocReader.document l.tables) l.self.graph) l.cells l.cell-index;
  gone : EachOf (IsGoneNoted (g.D.DocReader.document l.tables) l.initial.self l.self) l.cells l.cell-index;
}
