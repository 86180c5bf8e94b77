-- The steps of bundles that are accepted.
use Rattle.std.proofs.Common.{ℕ, ◌+◌, List, [], ◌∷◌, ◌++◌, map, ◌≡◌, refl, subst, sym, ap, ◌∙◌, Option, Some, None}
use Rattle.std.proofs.lemmas.List.{map-append}
use Rattle.acl_rules.specs.declared.decision.Ctx.{Ctx}
use Rattle.action_limits.specs.Tallies.{after}
use Rattle.bundle_judge.specs.declared.bare_verdict.BareVerdict.{BareVerdict}
use Rattle.bundle_judge.specs.declared.created.Created.{Created}
use Rattle.bundle_judge.specs.Judgement.{Judgement, accepted, created_at, judge_from, refusal_at, refused, with_before}
use Rattle.doc_model.specs.declared.action.Step.{Step}
use Rattle.doc_model.specs.declared.user_action.UserAction.{UserAction}
use Rattle.doc_model.specs.Apply.{apply_all}
use Rattle.doc_model.specs.Document.{Document}
use Rattle.renaming_bundles.specs.Expanded.{actions_of, expanded}
use Rattle.renaming_bundles.proofs.BundleTables.{done_behind}
use Rattle.rule_contexts.specs.Context.{carry_all}
use Rattle.user_actions.specs.StepLaws.{action_of}
use Rattle.user_actions.specs.Steps.{steps_of}
use Rattle.rename_law.specs.Judged.{JudgedLaw}

-- an accepted judgement, seen
abbrev IsIt : Document → List Step → Judgement → Type 0
IsIt d steps (accepted e xs ms) = (e ≡ d) × (xs ≡ steps)
IsIt d steps (refused v) = ⊥

is_it : (d : Document) (steps : List Step) (ms : List Created) (j : Judgement) → j ≡ accepted d steps ms → IsIt d steps j
is_it d steps ms j e = subst (IsIt d steps) (sym e) (refl, refl)

judged_from : (x : Ctx) (requested : List UserAction) (s : Document) (i : ℕ) (d : Document) (steps : List Step) → IsIt d steps (judge_from x s i requested)
    → (map action_of steps ≡ expanded s requested) × (d ≡ apply_all s (expanded s requested))
judged_from x [] s i d steps h = (ap (map action_of) (sym h.1), sym h.0)
judged_from x (a ∷ as') s i d steps h = by (refusal_at x s i a) (λ e xs g. judged_from (carry_all (steps_of s a) x) as' (after s a) (i + 1) e xs g) h
  where
    rest : (j : Judgement) → ((e : Document) (xs : List Step) → IsIt e xs j → (map action_of xs ≡ expanded (apply_all s (actions_of s a)) as') × (e ≡ apply_all (apply_all s (actions_of s a)) (expanded (apply_all s (actions_of s a)) as')))
        → IsIt d steps (with_before (steps_of s a) (created_at s a ∷ []) j) → (map action_of steps ≡ expanded s (a ∷ as')) × (d ≡ apply_all s (expanded s (a ∷ as')))
    rest (accepted e xs ms) later h =
        let l = later e xs (refl, refl) in (
          ap (map action_of) (sym h.1) ∙ map-append action_of (steps_of s a) xs ∙ ap (λ ys. actions_of s a ++ ys) l.0,
          sym h.0 ∙ l.1 ∙ done_behind s (actions_of s a) (expanded (apply_all s (actions_of s a)) as'),
        )
    rest (refused v) later h = absurd h

    by : (o : Option BareVerdict)
        → ((e : Document) (xs : List Step) → IsIt e xs (judge_from (carry_all (steps_of s a) x) (after s a) (i + 1) as') → (map action_of xs ≡ expanded (apply_all s (actions_of s a)) as') × (e ≡ apply_all (apply_all s (actions_of s a)) (expanded (apply_all s (actions_of s a)) as')))
        → IsIt d steps (elim o [ Some v ↦ refused v | None ↦ with_before (steps_of s a) (created_at s a ∷ []) (judge_from (carry_all (steps_of s a) x) (after s a) (i + 1) as') ])
        → (map action_of steps ≡ expanded s (a ∷ as')) × (d ≡ apply_all s (expanded s (a ∷ as')))
    by (Some v) later h = absurd h
    by None later h = rest (judge_from (carry_all (steps_of s a) x) (after s a) (i + 1) as') later h

pub judged_steps : JudgedLaw
judged_steps x requested s i d steps ms e = judged_from x requested s i d steps (is_it d steps ms (judge_from x s i requested) e)
