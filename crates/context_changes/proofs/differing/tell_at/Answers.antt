use Rattle.std.proofs.Common.{◌≡◌, ◌<◌, ◌≤◌, length, get_or, Some, ap, ◌∙◌, arith, rules}
use Rattle.doc_model.specs.Changes.{changes}
use Rattle.recalc.specs.Evaluated.{filled}
use Rattle.acl_rules.specs.declared.decision.Ctx.{Ctx}
use Rattle.rule_contexts.specs.Context.{context}
use Rattle.context_changes.specs.Known.{user_in}
use Rattle.context_changes.specs.Told.{seen_by}
use Rattle.context_changes.proofs.DifferingLemmas.{at_past, at_past_told, at_within}
use Rattle.context_changes.proofs.differing.tell_at.Goals as goal

pub returns-in_default : goal.returns-in_default
returns-in_default g c =
    let past : length c.args.contexts.now ≤ c.args.place = search rules in
    at_past (g.D.DocReader.document c.args.doc.now) c.args.contexts.now c.args.place (Some c.args.view.now) c.args.told.now (λ lt. omega (arith, lt, past))

pub returns-in_ok-told : goal.returns-in_ok-told
returns-in_ok-told g c =
    let t = g.D.DocReader.document c.args.doc.now in
    let xs = c.args.contexts.now in
    let within : c.args.place < length xs = search rules in
    let same : c.in-Some.ctx.now ≡ get_or xs c.args.place c.in-Some.ctx.now = search rules in
    at_within t xs c.args.place c.in-Some.ctx.now c.args.view.now c.args.told.now c.in_ok-told.field-0 within c.if-place-told.true
    (c.in_ok-told.ensures ∙ ap (λ x. changes c.args.view.now.tables (seen_by (filled t) x)) (c.in_ok-now.ensures.ok ∙ ap (λ (x : Ctx). context (user_in x) t) same))

pub returns-else-place-told : goal.returns-else-place-told
returns-else-place-told g c =
    at_past_told (g.D.DocReader.document c.args.doc.now) c.args.contexts.now c.args.place (Some c.args.view.now) c.args.told.now (λ lt. omega (arith, lt, c.if-place-told.false))
