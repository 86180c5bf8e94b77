use Rattle.std.proofs.Common.{◌≡◌, None, subst, IfOk, ◌∙◌}
use Rattle.acl_rules.specs.declared.decision.Ctx.{Ctx}
use Rattle.rule_contexts.specs.Context.{context}
use Rattle.context_changes.proofs.KnownLemmas.{own_context}
use Rattle.bundle_judge.specs.JudgedBundles.{IsJudgedBundle}
use Rattle.bundle_judge.specs.Judgement.{judge}
use Rattle.bundle_core.proofs.ruled_document.judge_for.Goals as goal

pub judge-requires-clause-in_force : goal.judge-requires-clause-in_force
judge-requires-clause-in_force g c =
    own_context c.args.user.now (g.D.DocReader.document c.args.doc.now) c.context.result.now (c.context.ensures ∙ c.in_ok-found.ensures)

pub returns-clause-judged : goal.returns-clause-judged
returns-clause-judged g c =
    let s = g.D.DocReader.document c.args.doc.now in
    let x = c.context.result.now in
    let P : Ctx → Type 0 = λ y. IfOk c.judge.result (λ r. IsJudgedBundle (judge y.user.user s c.args.requested.now) None s r.0) in
    let own : x ≡ context c.args.user.now s = c.context.ensures ∙ c.in_ok-found.ensures in
    subst P own c.judge.ensures.judged
