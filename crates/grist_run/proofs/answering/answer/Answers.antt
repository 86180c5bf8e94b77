use Rattle.std.proofs.Common.{refl}
use Rattle.grist_run.specs.Script.{line_entries}
use Rattle.grist_run.proofs.Answered.{answers_nothing, takes_nothing}
use Rattle.grist_run.proofs.answering.answer.Goals as goal

pub returns-in-Ok-None-clause-answers : goal.returns-in-Ok-None-clause-answers
returns-in-Ok-None-clause-answers g c =
    let s = c.args.watched.now.core.state in
    answers_nothing s.users s.start s.history (line_entries c.args.line.now) c.args.outbox.now (g.O.Sink.written c.args.out.now) (rw c.in-Ok-None.field-0-is at c.in-Ok-None.ensures.entries)

pub returns-in-Err-clause-answers : goal.returns-in-Err-clause-answers
returns-in-Err-clause-answers g c =
    let s = c.args.watched.now.core.state in
    takes_nothing s.users s.start s.history s.history (line_entries c.args.line.now) c.args.outbox.now (g.O.Sink.written c.args.out.now) refl
