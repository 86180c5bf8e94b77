use Rattle.std.proofs.Common.{◌∙◌, ◌++◌, [], ◌∷◌, ap, sym, cond, List, ℕ}
use Rattle.acl_rules.specs.Chain.{is_of, of_document}
use Rattle.acl_rules.proofs.PlaceLemmas.{places_step}
use Rattle.acl_rules.proofs.resources.document_places.Goals as goal

pub loop-place-preserved : goal.loop-place-preserved
loop-place-preserved c =
    c.in_ok-note_document.ensures
    ∙ ap (λ (l : List ℕ). cond (is_of of_document c.index-resources-place.result) (l ++ c.loop-place.place ∷ []) l) c.loop-place.invariant
    ∙ sym (places_step (is_of of_document) c.args.resources.now c.loop-place.place c.index-resources-place.result c.loop-place-test.true c.index-resources-place.is)
