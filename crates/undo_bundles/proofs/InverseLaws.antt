-- The inverse of steps, as that of their actions.
use Rattle.std.proofs.Common.{Bool, List, [], ◌∷◌, ◌++◌, map, ◌≡◌, refl, sym, ap, subst, ◌∙◌}
use Rattle.std.proofs.lemmas.List.{map-append, append_assoc, append-nil}
use Rattle.doc_model.specs.declared.action.DocAction.{DocAction}
use Rattle.doc_model.specs.declared.action.Step.{Step}
use Rattle.doc_model.specs.Apply.{apply, apply_all}
use Rattle.doc_model.specs.Document.{Document}
use Rattle.doc_model.specs.Inverse.{inverse, inverse_all}
use Rattle.doc_model.proofs.DocumentParts.{LeadsBack}
use Rattle.doc_model.proofs.InverseLaws.{apply_all-inverse_all}
use Rattle.undo_bundles.specs.InverseSteps.{inverse_step, inverse_steps, marked, step_action, InverseStepsLaw}

marked_actions : (direct : Bool) (as' : List DocAction) → map step_action (map (marked direct) as') ≡ as'
marked_actions direct [] = refl
marked_actions direct (a ∷ as') = ap (λ l. a ∷ l) (marked_actions direct as')

pub inverse_actions : (s : Document) (xs : List Step) → map step_action (inverse_steps s xs) ≡ inverse_all s (map step_action xs)
inverse_actions s [] = refl
inverse_actions s (x ∷ xs) =
    map-append step_action (inverse_steps (apply s x.action) xs) (inverse_step s x)
    ∙ ap (λ l. l ++ map step_action (inverse_step s x)) (inverse_actions (apply s x.action) xs)
    ∙ ap (λ l. inverse_all (apply s x.action) (map step_action xs) ++ l) (marked_actions x.direct (inverse s x.action))

pub inverse_steps_law : InverseStepsLaw
inverse_steps_law s xs whole may =
    let P : List DocAction → Type 0 = λ l. LeadsBack (apply_all s (map step_action xs)) s l in
    subst P (sym (inverse_actions s xs)) (apply_all-inverse_all s (map step_action xs) whole may)

-- what takes back a further step goes before the rest
pub inverse_steps-last : (s : Document) (xs : List Step) (x : Step) → inverse_steps s (xs ++ x ∷ []) ≡ inverse_step (apply_all s (map step_action xs)) x ++ inverse_steps s xs
inverse_steps-last s [] x = sym (append-nil (inverse_step s x))
inverse_steps-last s (y ∷ xs) x =
    ap (λ l. l ++ inverse_step s y) (inverse_steps-last (apply s y.action) xs x)
    ∙ append_assoc (inverse_step (apply_all s (map step_action (y ∷ xs))) x) (inverse_steps (apply s y.action) xs) (inverse_step s y)
