use Rattle.std.proofs.Common.{◌≡◌, ◌≤◌, take}
use Rattle.io_edges.specs.Sending.{Sends}
use Rattle.bundle_core.specs.Told.{with_newlines}
use Rattle.grist_serve.proofs.sending.send_lines.Given as goal

-- the lines so far were sent
abbrev pub invariant-loop-line : goal.invariant-loop-line
invariant-loop-line g l = record {
  sent : Sends (with_newlines (take l.line-index l.lines)) l.outbox (g.O.Sink.written l.fn.out) (g.O.Sink.written l.out);
  apart : g.O.Sink.incoming l.out ≡ g.O.Sink.incoming l.fn.out;
  later : g.O.Sink.faults l.fn.out ≤ g.O.Sink.faults l.out;
}
