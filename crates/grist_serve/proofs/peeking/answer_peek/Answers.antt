use Rattle.grist_serve.proofs.PeekLemmas.{peek_answers, peek_front}
use Rattle.grist_serve.proofs.peeking.answer_peek.Goals as goal

pub returns-in-Ok-send_line-clause-answers : goal.returns-in-Ok-send_line-clause-answers
returns-in-Ok-send_line-clause-answers g c pass due =
    peek_answers c.args.due pass due c.args.session.now c.args.table.now c.args.shots.now.known c.peek_reply.new.shots.known _ c.in-Ok.ensures.reply _ _ c.in-Ok-send_line.ensures.ok

pub returns-clause-answers : goal.returns-clause-answers
returns-clause-answers g c pass due =
    peek_front c.args.due pass due c.args.session.now c.args.table.now c.args.shots.now.known c.peek_reply.new.shots.known _ c.in-Ok.ensures.reply _ _ c.in-Err.ensures.err
