use Rattle.std.proofs.Common.{◌≡◌, map, subst, ◌∙◌, IfOk}
use Rattle.acl_rules.specs.declared.decision.Ctx.{Ctx}
use Rattle.bundle_judge.specs.Created.{told_of}
use Rattle.rule_contexts.specs.Context.{view_in}
use Rattle.bundle_core.proofs.bundle.values_of.Goals as goal

pub returns : goal.returns
returns g c =
    let t = g.D.DocReader.document c.args.doc.now in
    let P : Ctx → Type 0 = λ x. IfOk c.values_in.result (λ l. l ≡ map (told_of (view_in x t)) c.args.created.now) in
    subst P (c.context.ensures ∙ c.in_ok-found.ensures) c.values_in.ensures
