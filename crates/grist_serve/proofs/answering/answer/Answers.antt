use Rattle.std.proofs.Common.{subst, List}
use Rattle.doc_model.specs.declared.entry.Entry.{Entry}
use Rattle.grist_serve.specs.Answering.{AnswersOpen}
use Rattle.grist_serve.proofs.CallLemmas.{answers_nothing}
use Rattle.grist_serve.proofs.answering.answer.Goals as goal

pub returns-in-Ok-None-clause-answers : goal.returns-in-Ok-None-clause-answers
returns-in-Ok-None-clause-answers g c =
    let w = g.L.Sink.written c.args.link.now in
    subst (λ (es : List Entry). AnswersOpen c.args.pass.now c.args.pass.now es w w) (rw (c.in-Ok-None.field-0-is, c.line.ensures.line) at c.in-Ok-None.ensures.entries) (answers_nothing c.args.pass.now w)

pub returns-in-Err-clause-answers : goal.returns-in-Err-clause-answers
returns-in-Err-clause-answers g c = answers_nothing c.args.pass.now (g.L.Sink.written c.args.link.now)
