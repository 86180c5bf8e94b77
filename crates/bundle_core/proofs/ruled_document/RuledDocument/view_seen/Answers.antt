use Rattle.std.proofs.Common.{◌≡◌, subst, IfOk, ◌∙◌}
use Rattle.acl_rules.specs.declared.decision.Ctx.{Ctx}
use Rattle.rule_contexts.specs.Context.{view, view_in}
use Rattle.bundle_core.proofs.ruled_document.RuledDocument.view_seen.Goals as goal

pub returns-clause-seen : goal.returns-clause-seen
returns-clause-seen g c =
    let s = g.D.DocReader.document c.self.inside.doc in
    let P : Ctx → Type 0 = λ x. IfOk c.view_in.result (λ v. v.tables ≡ view_in x s) in
    subst (λ d. IfOk c.view_in.result (λ v. v.tables ≡ view c.args.user.now (g.D.DocReader.document d))) c.self.view_is
    (subst P (c.context.ensures ∙ c.in_ok-found.ensures) c.view_in.ensures.seen)
