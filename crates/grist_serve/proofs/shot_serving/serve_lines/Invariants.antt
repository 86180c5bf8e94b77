use Rattle.std.proofs.Common.{◌≡◌, ◌≤◌, []}
use Rattle.io_edges.specs.Reading.{work_left}
use Rattle.session_gate.specs.Gate.{IsPassOf}
use Rattle.grist_serve.specs.Due.{IsDue, standing}
use Rattle.grist_serve.specs.ShotLink.{IsServing}
use Rattle.grist_serve.specs.Standing.{starts_at}
use Rattle.grist_serve.proofs.shot_serving.serve_lines.Given as goal

-- the lines so far were answered
abbrev pub invariant-loop-end : goal.invariant-loop-end
invariant-loop-end g l = record {
  own : IsPassOf l.gate l.pass;
  due : IsDue l.progress.due l.pass;
  empty : l.progress.buffers.outbox ≡ [];
  serving : IsServing l.session (g.L.Source.left l.fn.link) (g.L.Source.left l.link) (starts_at l.fn.pass l.fn.shots.known) (standing l.pass l.progress.due l.shots.known)
      (g.L.Sink.written l.fn.link) (g.L.Sink.written l.link) l.progress.buffers.reader;
  read : g.L.Source.faults l.fn.link ≤ g.L.Source.faults l.link;
  write : g.L.Sink.faults l.fn.link ≤ g.L.Sink.faults l.link;
}

abbrev pub decreases-loop-end : goal.decreases-loop-end
decreases-loop-end g l = work_left l.progress.buffers.reader
