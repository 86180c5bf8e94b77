use Rattle.std.proofs.Common.{sym}
use Rattle.grist_run.proofs.ServingLaws.{ends_for, serving_ends}
use Rattle.grist_run.specs.declared.status.Status.TheVariants.{Done}
use Rattle.grist_run.proofs.serving.serve.Goals as goal

pub returns-in-Last-clause-ends : goal.returns-in-Last-clause-ends
returns-in-Last-clause-ends g c left written s =
    let l = c.loop-next in
    ends_for c.args.watched.now.core.state l.watched.core.state c.take_last.result left (g.S.Source.left l.input) c.take_last.new.watched.core.state.history c.take_last.new.outbox written (g.O.Sink.written c.take_last.new.out) l.invariant.stays.users l.invariant.stays.start
    (c.take_last.ensures.ends left (g.S.Source.left l.input) written l.reader (sym c.line.ensures.line) (rw c.in-Last.is at (l.invariant.serving left written s)))

pub returns-in-End-clause-ends : goal.returns-in-End-clause-ends
returns-in-End-clause-ends g c left written s =
    let l = c.loop-next in
    ends_for c.args.watched.now.core.state l.watched.core.state Done left (g.S.Source.left l.input) l.watched.core.state.history l.outbox written (g.O.Sink.written l.out) l.invariant.stays.users l.invariant.stays.start
    (serving_ends (rw c.in-End.is at (l.invariant.serving left written s)))

pub returns-in-Err-clause-ends : goal.returns-in-Err-clause-ends
returns-in-Err-clause-ends g c left written s =
    let l = c.loop-next in
    ends_for c.args.watched.now.core.state l.watched.core.state c.in-Err.status left (g.S.Source.left c.take_turn.new.input) c.take_turn.new.watched.core.state.history c.take_turn.new.outbox written (g.O.Sink.written c.take_turn.new.out) l.invariant.stays.users l.invariant.stays.start
    (c.in-Err.ensures.turn left written (rw c.in-Line.is at (l.invariant.serving left written s)))
