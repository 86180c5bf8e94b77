use Rattle.std.proofs.Common.{◌≤◌, ◌++◌, take}
use Rattle.io_edges.specs.Sending.{Sends}
use Rattle.bundle_core.specs.Frames.{framed}
use Rattle.grist_run.proofs.sending.send_lines.Given as goal

-- the lines so far were sent
abbrev pub invariant-loop-line : goal.invariant-loop-line
invariant-loop-line g l = record {
  sent : Sends (l.fn.outbox ++ framed l.session (take l.line-index l.lines)) l.outbox (g.O.Sink.written l.fn.out) (g.O.Sink.written l.out);
  later : g.O.Sink.faults l.fn.out ≤ g.O.Sink.faults l.out;
}
