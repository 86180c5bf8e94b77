use Rattle.std.proofs.Common.{◌≤◌, ℕ, List, Option}
use Rattle.grist_run.specs.Serving.{IsServing, turns_left}
use Rattle.grist_run.specs.Staying.{StaysStarted}
use Rattle.grist_run.proofs.serving.serve.Given as goal

-- the lines so far were answered
abbrev pub invariant-loop-next : goal.invariant-loop-next
invariant-loop-next g l = record {
  stays : StaysStarted l.fn.watched.core l.watched.core;
  serving : (left written : Option (List ℕ)) → IsServing l.fn.first left (g.S.Source.left l.fn.input) l.fn.watched.core.state l.fn.outbox written (g.O.Sink.written l.fn.out) l.fn.reader → IsServing l.next left (g.S.Source.left l.input) l.watched.core.state l.outbox written (g.O.Sink.written l.out) l.reader;
  read : g.S.Source.faults l.fn.input ≤ g.S.Source.faults l.input;
  write : g.O.Sink.faults l.fn.out ≤ g.O.Sink.faults l.out;
}

abbrev pub decreases-loop-next : goal.decreases-loop-next
decreases-loop-next g l = turns_left l.next l.reader
