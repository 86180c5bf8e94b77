use Rattle.std.proofs.Common.{◌∷◌, List, subst, inl, inr}
use Rattle.std.specs.List.{AllByRecursion}
use Rattle.doc_model.specs.declared.view.View.{View}
use Rattle.doc_model.specs.declared.view.ViewAction.{ViewAction}
use Rattle.doc_model.specs.Changes.{changes}
use Rattle.doc_model.specs.Document.{Document}
use Rattle.acl_rules.specs.declared.decision.Ctx.{Ctx}
use Rattle.context_changes.specs.Told.{IsSeen, seen_by, told_since}
use Rattle.context_changes.proofs.ZipLemmas.{zip_done_first, zip_done_second, zip_next}
use Rattle.context_changes.proofs.views.tell_whole.Goals as goal

abbrev told_to : Document → View × Ctx → List ViewAction
told_to s p = changes p.0.tables (seen_by s p.1)

pub changes_since-requires-clause-seen : goal.changes_since-requires-clause-seen
changes_since-requires-clause-seen g c =
    let all : AllByRecursion IsSeen (c.in-Some.view.now ∷ c.next.new.self.a.rest.now) = subst (AllByRecursion IsSeen) c.in-Some.ensures.steps.0 c.loop-view.invariant.seen in
    all.0

pub loop-view-preserved : goal.loop-view-preserved
loop-view-preserved g c =
    let s = g.D.DocReader.document c.args.tables.now in
    let views = c.next.new.self.a.rest.now in
    let ys = c.next.new.self.b.rest.now in
    let all : AllByRecursion IsSeen (c.in-Some.view.now ∷ views) = subst (AllByRecursion IsSeen) c.in-Some.ensures.steps.0 c.loop-view.invariant.seen in
    record {
      told = zip_next (told_to s) c.loop-view.told.items c.push.new.self.items (told_since s c.args.before.now c.args.contexts.now) c.loop-view.view-iterator.a.rest.now views c.loop-view.view-iterator.b.rest.now ys c.in-Some.view.now c.in-Some.ctx.now c.in_ok-changes_since.field-0
          c.loop-view.invariant.told c.in-Some.ensures.steps.0 c.in-Some.ensures.steps.1 c.in_ok-changes_since.ensures c.in_ok-push.ensures.items;
      seen = all.1;
    }

pub returns : goal.returns
returns g c =
    let s = g.D.DocReader.document c.args.tables.now in
    let whole = told_since s c.args.before.now c.args.contexts.now in
    let views = c.loop-view.view-iterator.a.rest.now in
    let ys = c.loop-view.view-iterator.b.rest.now in
    elim c.in-None.ensures.steps [
      | inl e ↦ zip_done_first (told_to s) c.loop-view.told.items whole views ys c.loop-view.invariant.told e.1.0
      | inr e ↦ zip_done_second (told_to s) c.loop-view.told.items whole views ys c.loop-view.invariant.told e.1.0
    ]
