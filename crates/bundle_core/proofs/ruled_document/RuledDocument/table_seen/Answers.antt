use Rattle.std.proofs.Common.{◌≡◌, subst, IfOk, ◌∙◌}
use Rattle.acl_rules.specs.declared.decision.Ctx.{Ctx}
use Rattle.rule_contexts.specs.Context.{view, view_in}
use Rattle.bundle_core.specs.Mailbox.{asked_table}
use Rattle.bundle_core.proofs.ruled_document.RuledDocument.table_seen.Goals as goal

pub returns-clause-seen : goal.returns-clause-seen
returns-clause-seen g c =
    let s = g.D.DocReader.document c.self.inside.doc in
    let P : Ctx → Type 0 = λ x. IfOk c.table_in.result (λ v. v.tables ≡ asked_table c.args.table.now (view_in x s)) in
    subst (λ d. IfOk c.table_in.result (λ v. v.tables ≡ asked_table c.args.table.now (view c.args.user.now (g.D.DocReader.document d)))) c.self.view_is
    (subst P (c.context.ensures ∙ c.in_ok-found.ensures) c.table_in.ensures.seen)
