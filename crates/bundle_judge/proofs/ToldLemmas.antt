-- What is told of steps, one after another.
use Rattle.std.proofs.Common.{◌≡◌, ℕ, ◌+◌, ◌≤◌, ◌<◌, List, [], ◌∷◌, ◌++◌, map, drop, length, get_or, Result, Ok, Err, IfOk, refl, sym, ap, subst, ◌∙◌, arith}
use Rattle.std.proofs.lemmas.List.{map-append, append_assoc, append-nil}
use Rattle.doc_model.specs.declared.action.DocAction.{DocAction}
use Rattle.doc_model.specs.declared.action.Step.{Step}
use Rattle.doc_model.specs.Apply.{apply, apply_all}
use Rattle.doc_model.specs.Document.{Document}
use Rattle.doc_model.proofs.Choices.{length_map}
use Rattle.recalc.specs.Lost.{lost}
use Rattle.evaluated_doc.specs.WayBack.{Changed}
use Rattle.undo_bundles.specs.InverseSteps.{inverse_step, inverse_steps}
use Rattle.user_actions.specs.StepLaws.{action_of}
use Rattle.bundle_judge.specs.JudgedBundles.{after_steps}
use Rattle.bundle_judge.specs.Losses.{AreTold, all_lost, cells_told}
use Rattle.bundle_judge.proofs.LossLemmas.{lost_all, lost_next}
use Rattle.bundle_judge.proofs.RollbackLemmas.{left_at, nothing_left}
use Rattle.bundle_judge.proofs.StepLemmas.{actions_left}

all_lost-append : (s : Document) (as' bs : List DocAction) → all_lost s (as' ++ bs) ≡ all_lost s as' ++ all_lost (apply_all s as') bs
all_lost-append s [] bs = refl
all_lost-append s (a ∷ as') bs = ap (λ l. lost s (apply s a) a ∷ l) (all_lost-append (apply s a) as' bs)

inverse_steps-append : (s : Document) (xs ys : List Step) → inverse_steps s (xs ++ ys) ≡ inverse_steps (after_steps s xs) ys ++ inverse_steps s xs
inverse_steps-append s [] ys = sym (append-nil (inverse_steps s ys))
inverse_steps-append s (x ∷ xs) ys =
    ap (λ l. l ++ inverse_step s x) (inverse_steps-append (apply s x.action) xs ys)
    ∙ append_assoc (inverse_steps (after_steps (apply s x.action) xs) ys) (inverse_steps (apply s x.action) xs) (inverse_step s x)

module _ {B : Type 0} where
  -- nothing is done yet
  pub told_nothing : (s : Document) (old : List (Changed B)) (was : List Step) → AreTold s [] old old was was
  told_nothing s old was = record { cells = sym (append-nil (cells_told old)); inverse = refl }

  -- more steps behind those that are told
  pub told_then : (start s : Document) (xs ys zs : List Step) (old mid new : List (Changed B)) (was then now : List Step)
      → AreTold start xs old mid was then → s ≡ after_steps start xs → AreTold s ys mid new then now → zs ≡ xs ++ ys → AreTold start zs old new was now
  told_then start s xs ys zs old mid new was then now h done k is = record {
    cells = k.cells
        ∙ ap (λ l. l ++ all_lost s (map action_of ys)) h.cells
        ∙ append_assoc (cells_told old) (all_lost start (map action_of xs)) (all_lost s (map action_of ys))
        ∙ ap (λ u. cells_told old ++ (all_lost start (map action_of xs) ++ all_lost u (map action_of ys))) done
        ∙ ap (λ l. cells_told old ++ l) (sym (all_lost-append start (map action_of xs) (map action_of ys)) ∙ ap (all_lost start) (sym (map-append action_of xs ys) ∙ ap (map action_of) (sym is)));
    inverse = k.inverse
        ∙ ap (λ l. inverse_steps s ys ++ l) h.inverse
        ∙ sym (append_assoc (inverse_steps s ys) (inverse_steps start xs) was)
        ∙ ap (λ u. inverse_steps u ys ++ inverse_steps start xs ++ was) done
        ∙ ap (λ l. l ++ was) (sym (inverse_steps-append start xs ys) ∙ ap (inverse_steps start) (sym is));
  }

  -- some steps are done and told, and the others are left
  pub record IsTelling (start : Document) (steps : List Step) (i : ℕ) (s : Document) (old new : List (Changed B)) (was now : List Step) : Type 0 where
    pub cells : cells_told new ++ all_lost s (drop i (map action_of steps)) ≡ cells_told old ++ all_lost start (map action_of steps)
    pub inverse : inverse_steps s (drop i steps) ++ now ≡ inverse_steps start steps ++ was

  module _ (start : Document) (steps : List Step) (i : ℕ) (s : Document) (old new : List (Changed B)) (was now : List Step) (h : IsTelling start steps i s old new was now) where
    pub telling_next : (x : Step) (t : Document) (more : List (Changed B)) (back : List Step) → i < length steps → x ≡ get_or steps i x → t ≡ apply s x.action
        → AreTold s (x ∷ []) new more now back → IsTelling start steps (i + 1) t old more was back
    telling_next x t more back lt is done k = record {
      cells = lost_next start (map action_of steps) i s t x.action (cells_told old) (cells_told new) (cells_told more) h.cells (actions_left i steps x lt is) done k.cells;
      inverse = ap (λ u. inverse_steps u (drop (i + 1) steps) ++ back) done
          ∙ ap (λ l. inverse_steps (apply s x.action) (drop (i + 1) steps) ++ l) k.inverse
          ∙ sym (append_assoc (inverse_steps (apply s x.action) (drop (i + 1) steps)) (inverse_step s x) now)
          ∙ ap (λ l. inverse_steps s l ++ now) (sym (left_at i steps x lt is))
          ∙ h.inverse;
    }

    pub telling_ends : length steps ≤ i → AreTold start steps old new was now
    telling_ends le = record {
      cells = lost_all start (map action_of steps) i s (cells_told old) (cells_told new) h.cells (omega (arith, le, length_map action_of steps));
      inverse = ap (λ l. inverse_steps s l ++ now) (sym (nothing_left i steps le)) ∙ h.inverse;
    }

-- what holds of a judged bundle holds of it once it is settled
pub settled : {J T E : Type 0} (P : J → Type 0) (judged : Result J E) (out : Result (J × T) E) → IfOk out (λ r. judged ≡ Ok r.0) → IfOk judged P → IfOk out (λ r. P r.0)
settled P judged (Ok r) e h = subst (λ q. IfOk q P) e h
settled P judged (Err f) e h = tt
