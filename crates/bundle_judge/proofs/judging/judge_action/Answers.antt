use Rattle.std.proofs.Common.{Some, sym, ap, ◌∙◌}
use Rattle.user_objections.specs.Objections.{objection_to}
use Rattle.rule_contexts.specs.Context.{view_in}
use Rattle.bundle_judge.proofs.JudgmentLemmas.{ruled_refused}
use Rattle.bundle_judge.proofs.judging.judge_action.Goals as goal

pub returns-in-Some : goal.returns-in-Some
returns-in-Some g c =
    let s = g.D.DocReader.document c.args.doc.now in
    let x = c.args.ctx.now in
    let a = c.args.action.now in
    ruled_refused x s c.args.index a c.in-Some.refusal
    (sym c.in-Some.is ∙ c.in_ok-refusal.ensures ∙ ap (λ v. objection_to v a) c.in_ok-asked.ensures.tables ∙ c.requested_law.ensures (view_in x s) a)
    ∙ ap (λ v. Some v) (sym c.refused.ensures)

pub judge_steps-requires-clause-unopposed : goal.judge_steps-requires-clause-unopposed
judge_steps-requires-clause-unopposed g c =
    let s = g.D.DocReader.document c.args.doc.now in
    let x = c.args.ctx.now in
    let a = c.args.action.now in
    ap (λ d. objection_to (view_in x (g.D.DocReader.document d)) a) c.tables.ensures.value
    ∙ sym (ap (λ v. objection_to v a) c.in_ok-asked.ensures.tables ∙ c.requested_law.ensures (view_in x s) a)
    ∙ sym c.in_ok-refusal.ensures ∙ c.in-None.is
