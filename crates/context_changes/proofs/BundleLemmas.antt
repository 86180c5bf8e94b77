-- What contexts are told of bundles, by the steps of these.
use Rattle.std.proofs.Common.{true, List, [], ◌∷◌, map, ◌≡◌, refl, ap, subst, ◌∙◌}
use Rattle.doc_model.specs.declared.action.DocAction.{DocAction}
use Rattle.doc_model.specs.Changes.{changes}
use Rattle.doc_model.specs.Document.{Document}
use Rattle.recalc.specs.Evaluated.{filled}
use Rattle.acl_rules.specs.declared.decision.Ctx.{Ctx}
use Rattle.acl_reading.specs.RulesLet.{rules_let}
use Rattle.action_censor.specs.Back.{back}
use Rattle.action_censor.specs.Step.{Step, are_records}
use Rattle.bundle_traces.specs.TraceLaws.{BundleLaw, steps_done}
use Rattle.context_changes.specs.Bundle.{IsBundle}
use Rattle.context_changes.specs.Told.{seen_by, told_of}

-- the document before the steps of a bundle shows what the one before the bundle shows
seen_back : BundleLaw → (s : Document) (actions : List DocAction) (ks : List Step) (now : Document) → IsBundle s actions ks now → are_records ks ≡ true → (x : Ctx)
    → seen_by (back ks now) x ≡ seen_by (filled s) x
seen_back law s actions ks now is records x =
    ap (λ l. seen_by (back l now) x) is.steps ∙ ap (λ t. seen_by (back (steps_done s actions) t) x) is.evaluated
    ∙ law (rules_let x) s actions is.whole is.valid (subst (λ l. are_records l ≡ true) is.steps records)

-- so it tells the same
pub back_to_bundle : BundleLaw → (s : Document) (actions : List DocAction) (ks : List Step) (now : Document) → IsBundle s actions ks now → are_records ks ≡ true → (xs : List Ctx)
    → map (λ x. told_of (back ks now) now x x) xs ≡ map (λ x. told_of (filled s) now x x) xs
back_to_bundle law s actions ks now is records [] = refl
back_to_bundle law s actions ks now is records (x ∷ xs) =
    ap (λ v. changes v (seen_by now x) ∷ map (λ x. told_of (back ks now) now x x) xs) (seen_back law s actions ks now is records x)
    ∙ ap (λ l. told_of (filled s) now x x ∷ l) (back_to_bundle law s actions ks now is records xs)
