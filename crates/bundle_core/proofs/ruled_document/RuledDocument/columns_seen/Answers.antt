use Rattle.std.proofs.Common.{◌≡◌, subst, IfOk, ◌∙◌}
use Rattle.acl_rules.specs.declared.decision.Ctx.{Ctx}
use Rattle.bundle_core.specs.Renaming.{rules_alone}
use Rattle.rule_contexts.specs.Context.{view, view_in}
use Rattle.bundle_core.proofs.ruled_document.RuledDocument.columns_seen.Goals as goal

pub returns : goal.returns
returns g c =
    let s = g.D.DocReader.document c.self.inside.doc in
    let P : Ctx → Type 0 = λ x. IfOk c.columns_in.result (λ v. v.tables ≡ rules_alone (view_in x s)) in
    subst (λ d. IfOk c.columns_in.result (λ v. v.tables ≡ rules_alone (view c.args.user.now (g.D.DocReader.document d)))) c.self.view_is
    (subst P (c.context.ensures ∙ c.in_ok-found.ensures) c.columns_in.ensures)
