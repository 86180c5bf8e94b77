-- What an action of some steps made, by its first step.
use Rattle.std.proofs.Common.{◌≡◌, ◌<◌, ◌≤◌, List, [], ◌∷◌, map, length, get_or, ap, ◌∙◌, arith}
use Rattle.doc_model.specs.declared.action.Step.{Step}
use Rattle.doc_model.specs.declared.user_action.UserAction.{UserAction}
use Rattle.user_actions.specs.StepLaws.{action_of}
use Rattle.bundle_judge.specs.declared.created.Created.{Created}
use Rattle.bundle_judge.specs.Created.{created_alone, created_by, created_of}

pub created_of-none : (a : UserAction) (steps : List Step) (m : Created) → length steps < 1 → m ≡ created_alone a → m ≡ created_of a (map action_of steps)
created_of-none a [] m lt e = e
created_of-none a (x ∷ xs) m lt e = absurd (omega (arith, lt))

pub created_of-first : (a : UserAction) (steps : List Step) (x : Step) (m : Created) → 1 ≤ length steps → x ≡ get_or steps 0 x → m ≡ created_by a x.action → m ≡ created_of a (map action_of steps)
created_of-first a [] x m le is e = absurd (omega (arith, le))
created_of-first a (z ∷ zs) x m le is e = e ∙ ap (λ (s : Step). created_by a s.action) is
