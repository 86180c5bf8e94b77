-- The steps that take steps back.
use Rattle.std.specs.Prelude.{Bool, true, List, [], ◌∷◌, ◌++◌, map, ◌≡◌}
use Rattle.doc_model.specs.declared.action.DocAction.{DocAction}
use Rattle.doc_model.specs.declared.action.Step.{Step}
use Rattle.doc_model.specs.Apply.{apply, apply_all, all_valid}
use Rattle.doc_model.specs.Document.{Document}
use Rattle.doc_model.specs.DocumentLaws.{IsWhole}
use Rattle.doc_model.specs.Inverse.{inverse}

-- an action with its mark, direct or not
abbrev pub marked : Bool → DocAction → Step
marked direct a = record { action = a; direct = direct }

abbrev pub step_action : Step → DocAction
step_action x = x.action

-- what takes back a step, taken at the document before it, with the mark of the step
abbrev pub inverse_step : Document → Step → List Step
inverse_step s x = map (marked x.direct) (inverse s x.action)

-- what takes back steps: the inverse of each, the last one's first
abbrev pub inverse_steps : Document → List Step → List Step
inverse_steps s [] = []
inverse_steps s (x ∷ xs) = inverse_steps (apply s x.action) xs ++ inverse_step s x

-- valid steps are taken back: each step of their inverse is valid at its place, and the last one
-- leaves the document before them
abbrev pub InverseStepsLaw : Type 0
InverseStepsLaw =
    (s : Document) (xs : List Step) → IsWhole s → all_valid s (map step_action xs) ≡ true
    → (all_valid (apply_all s (map step_action xs)) (map step_action (inverse_steps s xs)) ≡ true)
    × (apply_all (apply_all s (map step_action xs)) (map step_action (inverse_steps s xs)) ≡ s)
