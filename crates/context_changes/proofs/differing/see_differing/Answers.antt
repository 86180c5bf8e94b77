use Rattle.std.proofs.Common.{[], ◌∷◌, ◌++◌, List, Option, sym, subst, inl, inr}
use Rattle.std.specs.List.{AllByRecursion}
use Rattle.doc_model.specs.declared.view.View.{View}
use Rattle.doc_model.proofs.WholeLaws.{each_append}
use Rattle.recalc.specs.Evaluated.{filled}
use Rattle.context_changes.specs.Differing.{AreKeptOf, IsSeenIfKept}
use Rattle.context_changes.proofs.DifferingLemmas.{kept_all, kept_next, kept_none_beside, kept_none_left}
use Rattle.context_changes.proofs.differing.see_differing.Goals as goal

pub loop-ctx-preserved : goal.loop-ctx-preserved
loop-ctx-preserved g c =
    let s = filled (g.D.DocReader.document c.args.doc.now) in
    let fields = c.args.fields.now in
    record {
      kept = kept_next s fields c.loop-ctx.ctx-iterator.a.rest.now c.next.new.self.a.rest.now c.loop-ctx.ctx-iterator.b.rest.now c.next.new.self.b.rest.now c.in-Some.ctx.now c.in-Some.user.now
          c.in-Some.ensures.steps.0 c.in-Some.ensures.steps.1 (AreKeptOf s fields c.args.contexts.now c.args.users.now) c.loop-ctx.views.items c.push.new.self.items c.in_ok-view_if_differing.field-0
          c.loop-ctx.invariant.kept c.in_ok-view_if_differing.ensures.kept c.in_ok-push.ensures.items;
      seen = subst (AllByRecursion IsSeenIfKept) (sym c.in_ok-push.ensures.items)
          (each_append IsSeenIfKept c.loop-ctx.views.items (c.in_ok-view_if_differing.field-0 ∷ []) c.loop-ctx.invariant.seen (c.in_ok-view_if_differing.ensures.seen, tt));
    }

pub returns-clause-kept : goal.returns-clause-kept
returns-clause-kept g c =
    let s = filled (g.D.DocReader.document c.args.doc.now) in
    let fields = c.args.fields.now in
    let all = AreKeptOf s fields c.args.contexts.now c.args.users.now in
    let xs = c.loop-ctx.ctx-iterator.a.rest.now in
    let us = c.loop-ctx.ctx-iterator.b.rest.now in
    elim c.in-None.ensures.steps [
      | inl e ↦ kept_all all c.loop-ctx.views.items (c.loop-ctx.invariant.kept [] (kept_none_left s fields xs us e.1.0))
      | inr e ↦ kept_all all c.loop-ctx.views.items (c.loop-ctx.invariant.kept [] (kept_none_beside s fields xs us e.1.0))
    ]
