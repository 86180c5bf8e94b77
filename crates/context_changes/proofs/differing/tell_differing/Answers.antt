use Rattle.std.proofs.Common.{◌≡◌, [], ◌∷◌, ◌++◌, length, List, Option, Some, None, ap, sym, subst, ◌∙◌, rules}
use Rattle.std.specs.List.{AllByRecursion}
use Rattle.doc_model.specs.declared.view.View.{View}
use Rattle.context_changes.specs.Differing.{IsSeenIfKept, all_told_with, told_with_at}
use Rattle.context_changes.proofs.DifferingLemmas.{none_with, nothing_at, seen_before, with_last}
use Rattle.context_changes.proofs.differing.tell_differing.Goals as goal

pub loop-kept-preserved-in-Some-kept : goal.loop-kept-preserved-in-Some-kept
loop-kept-preserved-in-Some-kept g c =
    let t = g.D.DocReader.document c.args.doc.now in
    let xs = c.args.contexts.now in
    let vs = c.pop.new.self.items in
    let v = c.in-Some-kept.view in
    let here : c.len.result ≡ length vs = search rules in
    let last : c.in-Some.kept ≡ Some v = search rules in
    record {
      told = ap (all_told_with t xs vs) (c.in_ok-tell_at.ensures ∙ ap (λ i. told_with_at t xs i (Some v) c.loop-kept.told) here)
          ∙ with_last t xs vs (Some v) c.loop-kept.told
          ∙ ap (λ l. all_told_with t xs l c.loop-kept.told) (sym (c.in-Some.ensures.items ∙ ap (λ k. vs ++ k ∷ []) last))
          ∙ c.loop-kept.invariant.told;
      seen = seen_before vs c.in-Some.kept (subst (AllByRecursion IsSeenIfKept) c.in-Some.ensures.items c.loop-kept.invariant.seen);
    }

pub loop-kept-preserved : goal.loop-kept-preserved
loop-kept-preserved g c =
    let t = g.D.DocReader.document c.args.doc.now in
    let xs = c.args.contexts.now in
    let vs = c.pop.new.self.items in
    let last : c.in-Some.kept ≡ None = search rules in
    record {
      told = ap (all_told_with t xs vs) (sym (nothing_at t xs (length vs) c.loop-kept.told))
          ∙ with_last t xs vs None c.loop-kept.told
          ∙ ap (λ l. all_told_with t xs l c.loop-kept.told) (sym (c.in-Some.ensures.items ∙ ap (λ k. vs ++ k ∷ []) last))
          ∙ c.loop-kept.invariant.told;
      seen = seen_before vs c.in-Some.kept (subst (AllByRecursion IsSeenIfKept) c.in-Some.ensures.items c.loop-kept.invariant.seen);
    }

pub returns : goal.returns
returns g c =
    let t = g.D.DocReader.document c.args.doc.now in
    let empty : c.loop-kept.views.items ≡ [] = search rules in
    sym (none_with t c.args.contexts.now c.loop-kept.told) ∙ ap (λ l. all_told_with t c.args.contexts.now l c.loop-kept.told) (sym empty) ∙ c.loop-kept.invariant.told
