use Rattle.std.proofs.Common.{List, ◌+◌, map, get_or, sym, ap, subst, ◌∙◌, arith}
use Rattle.std.proofs.lemmas.Option.{IfSome_then}
use Rattle.std.specs.List.{AllByRecursion}
use Rattle.user_actions.specs.StepLaws.{action_of}
use Rattle.undo_bundles.specs.BundleLog.{count}
use Rattle.doc_model.specs.Document.{Document}
use Rattle.doc_model.specs.DocumentLaws.{IsWhole}
use Rattle.doc_model.proofs.InverseLaws.{IsWhole-apply_all}
use Rattle.doc_model.specs.declared.view.ViewAction.{ViewAction}
use Rattle.acl_rules.specs.declared.decision.Ctx.{Ctx}
use Rattle.context_changes.specs.Known.{told_by}
use Rattle.bundle_core.specs.Replies.{reply_of}
use Rattle.bundle_judge.specs.Created.{told_of}
use Rattle.bundle_judge.specs.JudgedBundles.{after_steps, told_changes}
use Rattle.bundle_judge.specs.Rollback.{gone_back}
use Rattle.bundle_core.specs.SessionState.{SessionState, IsReady}
use Rattle.bundle_core.specs.State.{accepted_as}
use Rattle.rule_contexts.specs.Context.{view}
use Rattle.bundle_core.proofs.Readied.{ready_as, reply_is}
use Rattle.bundle_core.proofs.bundle.ready_bundle.Goals as goal

pub reply_to-requires-clause-whole : goal.reply_to-requires-clause-whole
reply_to-requires-clause-whole g c =
    let s = gone_back g.D.DocTables.fits g.D.DocTables.undone c.args.trail.now.traces.items (g.D.DocReader.document c.args.doc.now) in
    let P : Document → Type 0 = λ t. IsWhole t in
    subst P (sym c.in_ok-all.ensures.document) (IsWhole-apply_all s (map action_of c.args.plan.now.steps) c.requires.whole c.requires.valid)

pub returns-clause-reply : goal.returns-clause-reply
returns-clause-reply g c =
    let s = gone_back g.D.DocTables.fits g.D.DocTables.undone c.args.trail.now.traces.items (g.D.DocReader.document c.args.doc.now) in
    let t = g.D.DocReader.document c.told_of_all.new.doc in
    let p = c.args.plan.now in
    let xs = c.args.sessions.now.items in
    let x = c.index.result.now in
    let own : SessionState = get_or xs c.args.index x in
    c.in_ok-reply.ensures
    ∙ ap (λ (y : SessionState). reply_of (accepted_as p.undone (count y.holder.log + 1) (map (told_of (view y.holder.user t)) p.created.items))) c.index.ensures
    ∙ ap (λ u. reply_of (accepted_as p.undone (count own.holder.log + 1) (map (told_of (view own.holder.user u)) p.created.items))) c.in_ok-all.ensures.document
    ∙ reply_is xs c.args.index x p.undone (after_steps s p.steps) p.created.items c.requires.within

pub returns-clause-ready : goal.returns-clause-ready
returns-clause-ready g c =
    let s = gone_back g.D.DocTables.fits g.D.DocTables.undone c.args.trail.now.traces.items (g.D.DocReader.document c.args.doc.now) in
    let p = c.args.plan.now in
    let xs = c.args.known.now.contexts.items in
    let X : List Ctx → Type 0 = λ l. AllByRecursion (IsReady (told_by l c.deref.result.now)) c.ready_all.new.sessions.items in
    let T : List (List ViewAction) → Type 0 = λ l. AllByRecursion (IsReady (told_by xs l)) c.ready_all.new.sessions.items in
    ready_as (told_by xs c.in_ok-all.all.told.items) (told_changes s (map action_of p.steps)) xs c.args.sessions.now.items c.ready_all.new.sessions.items
    c.in_ok-ready_all.ensures.same c.requires.all c.in_ok-all.ensures.told
    (subst T c.deref.ensures.value (subst X c.as_slice.ensures.value c.in_ok-ready_all.ensures.ready))

pub returns-clause-lost : goal.returns-clause-lost
returns-clause-lost g c = IfSome_then c.in_ok-room.room c.in_ok-room.ensures (λ room h. ((h.1.0, omega (arith, h.1.1, c.len.ensures)), c.in_ok-all.ensures.first h.0))
