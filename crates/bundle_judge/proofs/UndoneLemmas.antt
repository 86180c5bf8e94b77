-- How the judgement of an undo goes on from one step to the next.
use Rattle.std.proofs.Common.{◌≡◌, ℕ, suc, zero, ◌+◌, ◌<◌, ◌≤◌, true, ◌&&◌, List, [], ◌∷◌, ◌++◌, map, take, drop, length, get_or, Some, None, refl, sym, ap, subst, ◌∙◌, arith, add-one}
use Rattle.std.proofs.lemmas.List.{append-nil, take-append-drop}
use Rattle.doc_model.specs.declared.action.Step.{Step}
use Rattle.doc_model.specs.Apply.{apply, apply_all, all_valid}
use Rattle.doc_model.specs.Document.{Document}
use Rattle.doc_model.specs.Valid.{valid}
use Rattle.acl_rules.specs.declared.decision.Ctx.{Ctx}
use Rattle.action_limits.specs.declared.tally.Tally.{Tally}
use Rattle.action_limits.specs.Tallies.{IsTally}
use Rattle.user_actions.specs.StepLaws.{action_of}
use Rattle.bundle_judge.specs.declared.bare_verdict.BareVerdict.{BareVerdict}
use Rattle.bundle_judge.specs.declared.judging.BundlePlan.{BundlePlan}
use Rattle.rule_contexts.specs.Context.{carry}
use Rattle.bundle_judge.specs.Denials.{denial_at, or_else}
use Rattle.bundle_judge.specs.JudgedBundles.{IsBundlePlan, after_steps}
use Rattle.bundle_judge.specs.Judgement.{Judgement, accepted, refused, with_before}
use Rattle.bundle_judge.specs.Undo.{judge_undo, stale_at, unfit_at}
use Rattle.bundle_judge.specs.UndoneSteps.{IsUndoAt, MayGoOn}
use Rattle.bundle_judge.proofs.JudgmentLemmas.{all_valid-append, with_before-accepted, with_before-both, with_before-nothing}
use Rattle.action_limits.proofs.RenameMoves.{apply_all-append}
use Rattle.bundle_judge.proofs.RollbackLemmas.{left_at, nothing_left}
use Rattle.bundle_judge.proofs.TakeLemmas.{map_take_next}

take_suc : (xs : List Step) (i : ℕ) (x : Step) → i < length xs → x ≡ get_or xs i x → take i xs ++ x ∷ [] ≡ take (suc i) xs
take_suc [] i x lt is = absurd (omega (arith, lt))
take_suc (z ∷ xs) zero x lt is = ap (λ y. y ∷ []) is
take_suc (z ∷ xs) (suc i) x lt is = ap (λ r. z ∷ r) (take_suc xs i x (omega (arith, lt)) is)

pub take_next : (xs : List Step) (i : ℕ) (x : Step) → i < length xs → x ≡ get_or xs i x → take i xs ++ x ∷ [] ≡ take (i + 1) xs
take_next xs i x lt is = rw (add-one i) (take_suc xs i x lt is)

-- all are taken
pub all_taken : (xs : List Step) (i : ℕ) → length xs ≤ i → take i xs ≡ xs
all_taken xs i le = sym (append-nil (take i xs)) ∙ ap (λ l. take i xs ++ l) (sym (nothing_left i xs le)) ∙ take-append-drop i xs

module _ (rules : Ctx) (start : Document) (xs : List Step) where
  pub undo_starts : (tally : Tally) → IsTally start tally → IsUndoAt rules start xs 0 rules start tally
  undo_starts tally is = record { done_so_far = refl; valid = refl; counts = is; judged = with_before-nothing (judge_undo rules start 0 xs) }

  module _ (i : ℕ) (now : Ctx) (s : Document) (tally : Tally) (h : IsUndoAt rules start xs i now s tally) where
    -- all are judged, and the undo is accepted
    pub undo_ends : (p : BundlePlan) (number : ℕ) → length xs ≤ i → p.undone ≡ Some number → p.steps ≡ xs → p.created.items ≡ [] → p.tally ≡ tally → IsBundlePlan (judge_undo rules start 0 xs) (Some number) start p
    undo_ends p number le undone same none t =
        let left : drop i xs ≡ [] = nothing_left i xs le in
        let all : take i xs ≡ xs = all_taken xs i le in
        let after : s ≡ after_steps start xs = h.done_so_far ∙ ap (after_steps start) all in
        let C : List Step → Type 0 = λ l. IsTally (after_steps start l) p.tally in
        let D : Document → Type 0 = λ u. IsTally u p.tally in
        let T : Tally → Type 0 = λ u. IsTally s u in
        record {
          undoes = undone;
          judged = h.judged
              ∙ ap (λ l. with_before (take i xs) [] (judge_undo now s i l)) left
              ∙ with_before-accepted (take i xs) [] s
              ∙ ap (λ l. accepted s l []) (all ∙ sym same)
              ∙ ap (λ u. accepted u p.steps []) (after ∙ ap (after_steps start) (sym same))
              ∙ ap (accepted (after_steps start p.steps) p.steps) (sym none);
          may = record {
            valid = ap (λ l. all_valid start (map action_of l)) (same ∙ sym all) ∙ h.valid;
            counts = subst C (sym same) (subst D after (subst T (sym t) h.counts));
          };
        }

    module _ (x : Step) (lt : i < length xs) (is : x ≡ get_or xs i x) where
      here : judge_undo rules start 0 xs ≡ with_before (take i xs) [] (judge_undo now s i (x ∷ drop (i + 1) xs))
      here = h.judged ∙ ap (λ l. with_before (take i xs) [] (judge_undo now s i l)) (left_at i xs x lt is)

      abbrev behind : Judgement
      behind = with_before (x ∷ []) [] (judge_undo (carry x.action now) (apply s x.action) (i + 1) (drop (i + 1) xs))

      refused_so : (v : BareVerdict) → unfit_at now s i x ≡ Some v → judge_undo rules start 0 xs ≡ refused v
      refused_so v r = here ∙ ap (λ o. with_before (take i xs) [] (elim o as (λ _. Judgement) [ Some w ↦ refused w | None ↦ behind ])) r

      -- a step is refused, and so is the undo
      pub undo_refused : (v : BareVerdict) → stale_at s i x.action ≡ Some v → judge_undo rules start 0 xs ≡ refused v
      undo_refused v r = refused_so v (ap (λ o. or_else o (denial_at now s i x)) r)

      -- a step is denied
      pub undo_denied : (t : Tally) (v : BareVerdict) → MayGoOn s i x.action t → denial_at now s i x ≡ Some v → judge_undo rules start 0 xs ≡ refused v
      undo_denied t v m r = refused_so v (ap (λ o. or_else o (denial_at now s i x)) m.fresh ∙ r)

      -- nothing stands against it, and it is done
      pub undo_next : (z : Ctx) (t : Document) (next : Tally) → MayGoOn s i x.action next → denial_at now s i x ≡ None → z ≡ carry x.action now → t ≡ apply s x.action → IsUndoAt rules start xs (i + 1) z t next
      undo_next z t next m none along done =
          let V : Document → Type 0 = λ u. (valid u x.action && true) ≡ true in
          let C : Document → Type 0 = λ u. IsTally u next in
          let rest : List Step = drop (i + 1) xs in
          record {
            done_so_far = done ∙ ap (λ u. apply u x.action) h.done_so_far ∙ sym (apply_all-append start (map action_of (take i xs)) (x.action ∷ []))
                ∙ ap (apply_all start) (map_take_next action_of xs i x lt is);
            valid = ap (all_valid start) (sym (map_take_next action_of xs i x lt is))
                ∙ all_valid-append start (map action_of (take i xs)) (x.action ∷ []) h.valid (subst V h.done_so_far (ap (λ b. b && true) m.valid));
            counts = subst C (sym done) m.counts;
            judged = here
                ∙ ap (λ o. with_before (take i xs) [] (elim o as (λ _. Judgement) [ Some w ↦ refused w | None ↦ behind ]))
                (ap (λ o. or_else o (denial_at now s i x)) m.fresh ∙ none)
                ∙ with_before-both (take i xs) (x ∷ []) [] [] (judge_undo (carry x.action now) (apply s x.action) (i + 1) rest)
                ∙ ap (λ l. with_before l [] (judge_undo (carry x.action now) (apply s x.action) (i + 1) rest)) (take_next xs i x lt is)
                ∙ ap (λ c. with_before (take (i + 1) xs) [] (judge_undo c (apply s x.action) (i + 1) rest)) (sym along)
                ∙ ap (λ u. with_before (take (i + 1) xs) [] (judge_undo z u (i + 1) rest)) (sym done);
          }
