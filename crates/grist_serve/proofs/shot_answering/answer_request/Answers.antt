use Rattle.std.proofs.Common.{true, List, [], ◌∷◌, refl, subst}
use Rattle.bundle_core.specs.Machine.{event_entry}
use Rattle.grist_serve.specs.Answered.{Asked}
use Rattle.grist_serve.specs.Due.{standing}
use Rattle.grist_serve.specs.ShotAnswering.{AnswersLine, AnswersOpen}
use Rattle.grist_serve.specs.Standing.{Standing}
use Rattle.grist_serve.proofs.AnsweredLemmas.{asks_plain}
use Rattle.grist_serve.proofs.ShotLineLaws.{answers_nothing}
use Rattle.grist_serve.proofs.TurnAnswers.{turn_answers}
use Rattle.grist_serve.proofs.shot_answering.answer_request.Goals as goal

pub returns-in-Ok-Some-clause-answers : goal.returns-in-Ok-Some-clause-answers
returns-in-Ok-Some-clause-answers g c known =
    let old : Standing = standing c.args.pass.now c.args.progress.now.due known in
    let new : Standing = standing c.answer_event.new.pass c.answer_event.new.due known in
    let w = g.L.Sink.written c.args.link.now in
    let w' = g.L.Sink.written c.answer_event.new.out in
    subst (λ (xs : List Asked). AnswersLine c.answer_event.result c.args.session.now old new xs w w')
    (asks_plain c.args.session.now c.args.progress.now.buffers.reader.line (event_entry c.in-Ok-Some.event true ∷ []) c.requires.no_peek
    (rw (c.in-Ok-Some.field-0-is, c.line.ensures.line) at c.in-Ok-Some.ensures.entries))
    (turn_answers c.args.session.now old new refl (event_entry c.in-Ok-Some.event true) w w' c.answer_event.result c.answer_event.ensures.turned c.answer_event.ensures.answers)

pub returns-in-Ok-None-clause-answers : goal.returns-in-Ok-None-clause-answers
returns-in-Ok-None-clause-answers g c known =
    let s : Standing = standing c.args.pass.now c.args.progress.now.due known in
    let w = g.L.Sink.written c.args.link.now in
    subst (λ (xs : List Asked). AnswersOpen c.args.session.now s s xs w w)
    (asks_plain c.args.session.now c.args.progress.now.buffers.reader.line [] c.requires.no_peek (rw (c.in-Ok-None.field-0-is, c.line.ensures.line) at c.in-Ok-None.ensures.entries))
    (answers_nothing c.args.session.now s w)
