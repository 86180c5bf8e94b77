-- Steps one after another, by their actions.
use Rattle.std.proofs.Common.{◌≡◌, ℕ, suc, zero, ◌+◌, ◌<◌, Bool, List, [], ◌∷◌, ◌++◌, map, drop, length, get_or, refl, sym, ap, ◌∙◌, arith}
use Rattle.doc_model.specs.declared.action.DocAction.{DocAction}
use Rattle.doc_model.specs.declared.action.Step.{Step}
use Rattle.user_actions.specs.StepLaws.{action_of}
use Rattle.bundle_judge.specs.SplitSteps.{joined}
use Rattle.bundle_judge.proofs.RollbackLemmas.{left_at}

-- ---- actions of steps

pub drop_actions : (i : ℕ) (xs : List Step) → drop i (map action_of xs) ≡ map action_of (drop i xs)
drop_actions zero xs = refl
drop_actions (suc i) [] = refl
drop_actions (suc i) (x ∷ xs) = drop_actions i xs

-- what stands at an index of the actions, and what is behind it
pub actions_left : (i : ℕ) (xs : List Step) (x : Step) → i < length xs → x ≡ get_or xs i x → drop i (map action_of xs) ≡ x.action ∷ drop (i + 1) (map action_of xs)
actions_left i xs x lt is =
    drop_actions i xs ∙ ap (map action_of) (left_at i xs x lt is) ∙ ap (λ l. x.action ∷ l) (sym (drop_actions (i + 1) xs))

-- ---- steps apart

pub joined_actions : (as' : List DocAction) (marks : List Bool) → length as' ≡ length marks → map action_of (joined as' marks) ≡ as'
joined_actions [] marks e = refl
joined_actions (a ∷ as') [] e = absurd (omega (arith, e))
joined_actions (a ∷ as') (d ∷ marks) e = ap (λ l. a ∷ l) (joined_actions as' marks (omega (arith, e)))

pub joined_last : (as' : List DocAction) (marks : List Bool) (a : DocAction) (d : Bool) → length as' ≡ length marks → joined (as' ++ a ∷ []) (marks ++ d ∷ []) ≡ joined as' marks ++ record { action = a; direct = d } ∷ []
joined_last [] [] a d e = refl
joined_last [] (m ∷ marks) a d e = absurd (omega (arith, e))
joined_last (b ∷ as') [] a d e = absurd (omega (arith, e))
joined_last (b ∷ as') (m ∷ marks) a d e = ap (λ l. record { action = b; direct = m } ∷ l) (joined_last as' marks a d (omega (arith, e)))

pub joined_length : (as' : List DocAction) (marks : List Bool) → length as' ≡ length marks → length (joined as' marks) ≡ length as'
joined_length [] marks e = refl
joined_length (a ∷ as') [] e = absurd (omega (arith, e))
joined_length (a ∷ as') (d ∷ marks) e = ap (λ n. suc n) (joined_length as' marks (omega (arith, e)))
