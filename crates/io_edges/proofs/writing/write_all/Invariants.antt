use Rattle.std.proofs.Common.{◌≡◌, ◌≤◌, length}
use Rattle.io_edges.specs.Sending.{Sends}
use Rattle.io_edges.proofs.writing.write_all.Given as goal

abbrev pub invariant-loop-rest : goal.invariant-loop-rest
invariant-loop-rest g l = record {
  sent : Sends l.bytes l.rest (g.O.Sink.written l.fn.out) (g.O.Sink.written l.out);
  apart : g.O.Sink.incoming l.out ≡ g.O.Sink.incoming l.fn.out;
  later : g.O.Sink.faults l.fn.out ≤ g.O.Sink.faults l.out;
}

abbrev pub decreases-loop-rest : goal.decreases-loop-rest
decreases-loop-rest g l = length l.rest
