use Rattle.std.proofs.Common.{sym}
use Rattle.grist_run.proofs.ServingLaws.{last_answered, last_ends}
use Rattle.grist_run.proofs.serving.take_last.Goals as goal

pub returns-in-Ok-clause-ends : goal.returns-in-Ok-clause-ends
returns-in-Ok-clause-ends g c left left_new written reader is s =
    last_answered c.args.watched.now.core.state c.answer.new.watched.core.state c.args.outbox.now c.answer.new.outbox written (g.O.Sink.written c.args.out.now) (g.O.Sink.written c.answer.new.out) left left_new left_new reader reader
    c.answer.ensures.stays.users c.answer.ensures.stays.start c.args.line.now (sym is) s c.in-Ok.ensures.answers

pub returns-in-Err-clause-ends : goal.returns-in-Err-clause-ends
returns-in-Err-clause-ends g c left left_new written reader is s =
    last_ends c.args.watched.now.core.state c.answer.new.watched.core.state c.args.outbox.now c.answer.new.outbox written (g.O.Sink.written c.args.out.now) (g.O.Sink.written c.answer.new.out) left left_new left_new reader reader
    c.answer.ensures.stays.users c.answer.ensures.stays.start c.args.line.now (sym is) s c.in-Err.status c.in-Err.ensures.answers
