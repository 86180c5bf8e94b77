use Rattle.grist_serve.proofs.CallLemmas.{answers_front, answers_lines, answers_seen, finds_full}
use Rattle.grist_serve.proofs.shot_asking.answer_event.Goals as goal

pub returns-in-Ok-Full-clause-answers : goal.returns-in-Ok-Full-clause-answers
returns-in-Ok-Full-clause-answers g c =
    finds_full c.args.pass.now c.ask.new.pass c.in-Ok-Full.ensures.same c.args.event _ (rw c.in-Ok-Full.field-0-is at c.in-Ok-Full.ensures.ok)

pub returns-in-Ok-clause-answers : goal.returns-in-Ok-clause-answers
returns-in-Ok-clause-answers g c =
    answers_lines c.args.pass.now c.ask.new.pass c.in-Ok-Lines.ensures.same c.args.event c.in-Ok-Lines.lines c.in-Ok-Lines.closes c.requires.stays (rw c.in-Ok-Lines.field-0-is at c.in-Ok-Lines.ensures.ok) _ _
    (rw c.as_slice.ensures at c.in-Ok.ensures.ok)

pub returns-in-Ok-Lines-clause-answers : goal.returns-in-Ok-Lines-clause-answers
returns-in-Ok-Lines-clause-answers g c =
    answers_front c.args.pass.now c.ask.new.pass c.in-Ok-Lines.ensures.same c.args.event c.in-Ok-Lines.lines c.in-Ok-Lines.closes c.requires.stays (rw c.in-Ok-Lines.field-0-is at c.in-Ok-Lines.ensures.ok) _ _
    (rw c.as_slice.ensures at c.in-Err-send_lines.ensures.err)

pub returns-clause-answers : goal.returns-clause-answers
returns-clause-answers g c = answers_seen c.args.pass.now c.ask.new.pass _ c.in-Err.ensures.same c.in-Err.ensures.err
