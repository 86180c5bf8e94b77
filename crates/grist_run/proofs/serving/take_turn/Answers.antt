use Rattle.grist_run.proofs.ServingLaws.{turn_taken, line_ends}
use Rattle.grist_run.proofs.serving.take_turn.Goals as goal

pub returns-in-Ok-clause-turn : goal.returns-in-Ok-clause-turn
returns-in-Ok-clause-turn g c left written s =
    turn_taken c.args.watched.now.core.state c.answer.new.watched.core.state c.args.outbox.now c.answer.new.outbox written (g.O.Sink.written c.args.out.now) (g.O.Sink.written c.answer.new.out) left (g.S.Source.left c.args.input.now) (g.S.Source.left c.read_next.new.input) c.args.reader.now c.read_next.new.reader
    c.answer.ensures.stays.users c.answer.ensures.stays.start c.line.result.now c.line.ensures.line s c.in-Ok.ensures.answers c.read_next.result c.read_next.ensures.reads

pub returns-in-Err-clause-turn : goal.returns-in-Err-clause-turn
returns-in-Err-clause-turn g c left written s =
    line_ends c.args.watched.now.core.state c.answer.new.watched.core.state c.args.outbox.now c.answer.new.outbox written (g.O.Sink.written c.args.out.now) (g.O.Sink.written c.answer.new.out) left (g.S.Source.left c.args.input.now) (g.S.Source.left c.args.input.now) c.args.reader.now c.args.reader.now
    c.answer.ensures.stays.users c.answer.ensures.stays.start c.line.result.now c.line.ensures.line s c.in-Err.status c.in-Err.ensures.answers
