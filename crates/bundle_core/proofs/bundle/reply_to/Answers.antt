use Rattle.std.proofs.Common.{◌≡◌, ◌+◌, map, ap, subst, ◌∙◌, IfOk}
use Rattle.undo_bundles.specs.BundleLog.{count}
use Rattle.bundle_judge.specs.declared.bare_verdict.BareVerdict.{BareVerdict}
use Rattle.bundle_judge.specs.Created.{told_of}
use Rattle.rule_contexts.specs.Context.{view}
use Rattle.bundle_core.specs.Replies.{reply_of}
use Rattle.bundle_core.specs.State.{accepted_as}
use Rattle.bundle_core.proofs.bundle.reply_to.Goals as goal

pub returns : goal.returns
returns g c =
    let s = g.D.DocReader.document c.args.doc.now in
    let p = c.args.plan.now in
    let h = c.args.session.now.holder in
    let P : BareVerdict → Type 0 = λ v. IfOk c.reply_with.result (λ l. l ≡ reply_of v) in
    subst P (c.accepted_as.ensures
    ∙ ap (λ n. accepted_as p.undone (n + 1) c.in_ok-values.values) c.bundles-number.ensures
    ∙ ap (λ vs. accepted_as p.undone (count h.log + 1) vs) (c.in_ok-values.ensures
    ∙ ap (λ u. map (told_of (view u s)) c.deref.result.now) c.user.ensures
    ∙ ap (λ ms. map (told_of (view h.user s)) ms) c.deref.ensures.value)) c.reply_with.ensures
