use Rattle.std.proofs.Common.{◌≡◌, List, map, ap, subst, sym, ◌∙◌}
use Rattle.std.specs.List.{AllByRecursion}
use Rattle.doc_model.specs.declared.view.View.{View}
use Rattle.doc_model.specs.Changes.{changes}
use Rattle.doc_model.specs.Apply.{apply_all}
use Rattle.doc_model.specs.Document.{Document}
use Rattle.doc_model.specs.DocumentLaws.{IsWhole}
use Rattle.doc_model.proofs.InverseLaws.{IsWhole-apply_all}
use Rattle.user_actions.specs.StepLaws.{action_of}
use Rattle.recalc.specs.Evaluated.{filled}
use Rattle.rule_contexts.specs.Context.{view}
use Rattle.context_changes.specs.Told.{IsSeen, told_since, view_of}
use Rattle.context_changes.proofs.KnownLemmas.{told_wholly}
use Rattle.bundle_core.proofs.telling.done_and_seen.Goals as goal

pub tell_anew-requires-clause-whole : goal.tell_anew-requires-clause-whole
tell_anew-requires-clause-whole g c =
    let P : Document → Type 0 = λ s. IsWhole s in
    subst P (sym (c.in_ok-do_again.ensures.done ∙ ap (apply_all (g.D.DocReader.document c.args.doc.now)) c.actions.ensures)) (IsWhole-apply_all (g.D.DocReader.document c.args.doc.now) (map action_of c.args.steps.now) c.requires.whole c.requires.valid)

pub tell_anew-requires-clause-seen : goal.tell_anew-requires-clause-seen
tell_anew-requires-clause-seen g c =
    let P : List View → Type 0 = λ l. AllByRecursion IsSeen l in
    subst P (sym c.deref.ensures.value) c.in_ok-before.ensures.seen

pub returns-clause-told : goal.returns-clause-told
returns-clause-told g c =
    let s = g.D.DocReader.document c.args.doc.now in
    let t = g.D.DocReader.document c.do_again.new.doc in
    let xs = c.args.known.now.contexts.items in
    let ys = c.as_slice-2.result.now in
    let before : c.deref.result.now ≡ map (view_of (filled s)) xs =
    c.deref.ensures.value ∙ c.in_ok-before.ensures.value ∙ ap (map (view_of (filled s))) c.as_slice.ensures.value in
    λ user among.
    told_wholly s t xs ys c.in_ok-told.told.items user c.requires.known.contexts among (c.as_slice-2.ensures.value ∙ c.in_ok-next.ensures.contexts)
    (c.in_ok-told.ensures ∙ ap (λ vs. told_since (filled t) vs ys) before)
    ∙ ap (λ d. changes (view user s) (view user d)) (c.in_ok-do_again.ensures.done ∙ ap (apply_all (g.D.DocReader.document c.args.doc.now)) c.actions.ensures)
