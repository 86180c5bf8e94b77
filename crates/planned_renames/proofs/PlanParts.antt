-- The actions of a plan, and what is unresolved of its parts.
use Rattle.std.proofs.Common.{◌≡◌, ◌∙◌, ap, arith, refl, sym, ℕ, ◌+◌, ◌⊎◌, inl, inr, ⊎_elim, List, [], ◌∷◌, ◌++◌}
use Rattle.std.specs.List.{AllByRecursion}
use Rattle.std.proofs.lemmas.List.{append_assoc, append-nil}
use Rattle.doc_model.specs.declared.user_action.UserAction.{UserAction}
use Rattle.rename_flow.specs.declared.rename_plan.RenamePlan.{RenamePlan}
use Rattle.rename_flow.specs.Parts.{Part, with_part, with_parts}
use Rattle.rename_marks.specs.Noted.{capped}
use Rattle.renaming_bundles.specs.AskedTexts.{text_asked, texts_asked}
use Rattle.planned_renames.specs.PlannedValues.{actions_in}

pub with_parts_actions : (p : RenamePlan) (qs : List Part) → (with_parts p qs).actions ≡ p.actions ++ actions_in qs
unfolding with_part
with_parts_actions p [] = sym (append-nil p.actions)
with_parts_actions p (q ∷ qs) = with_parts_actions (with_part p q) qs ∙ append_assoc p.actions q.actions (actions_in qs)

pub capped_none : (n : ℕ) → capped n ≡ 0 → n ≡ 0
capped_none n h = omega arith

sum_none : (m n : ℕ) → m + n ≡ 0 → (m ≡ 0) × (n ≡ 0)
sum_none m n h = (omega arith, omega arith)

pub with_parts_none : (p : RenamePlan) (qs : List Part) → (with_parts p qs).unresolved ≡ 0 → (p.unresolved ≡ 0) × AllByRecursion (λ (q : Part). q.unresolved ≡ 0) qs
unfolding with_part
with_parts_none p [] h = (h, tt)
with_parts_none p (q ∷ qs) h =
    let later = with_parts_none (with_part p q) qs h in
    let both = sum_none p.unresolved q.unresolved (capped_none (p.unresolved + q.unresolved) later.0) in
    (both.0, (both.1, later.1))

-- ---- the text of a column after actions

module _ (t n : List ℕ) where
  pub texts_behind : (xs ys : List UserAction) (f : List ℕ) → texts_asked (xs ++ ys) t n f ≡ texts_asked ys t n (texts_asked xs t n f)
  texts_behind [] ys f = refl
  texts_behind (x ∷ xs) ys f = texts_behind xs ys (text_asked x t n f)

  -- a part that gives the column no text, and one that gives it this one
  abbrev pub Leaves : Part → Type 0
  Leaves q = (f : List ℕ) → texts_asked q.actions t n f ≡ f

  abbrev pub Sets : List ℕ → Part → Type 0
  Sets g q = (f : List ℕ) → texts_asked q.actions t n f ≡ g

  abbrev pub HasSet : List ℕ → List Part → Type 0
  HasSet g [] = ⊥
  HasSet g (q ∷ qs) = Sets g q ⊎ HasSet g qs

  pub set_left : (g : List ℕ) (xs ys : List Part) → HasSet g xs → HasSet g (xs ++ ys)
  set_left g [] ys h = absurd h
  set_left g (x ∷ xs) ys h = ⊎_elim (λ i. inl i) (λ i. inr (set_left g xs ys i)) h

  pub set_right : (g : List ℕ) (xs ys : List Part) → HasSet g ys → HasSet g (xs ++ ys)
  set_right g [] ys h = h
  set_right g (x ∷ xs) ys h = inr (set_right g xs ys h)

  pub all_leave : (qs : List Part) → AllByRecursion Leaves qs → (f : List ℕ) → texts_asked (actions_in qs) t n f ≡ f
  all_leave [] h f = refl
  all_leave (q ∷ qs) h f = texts_behind q.actions (actions_in qs) f ∙ ap (texts_asked (actions_in qs) t n) (h.0 f) ∙ all_leave qs h.1 f

  stay_set : (g : List ℕ) (qs : List Part) → AllByRecursion (λ q. Leaves q ⊎ Sets g q) qs → texts_asked (actions_in qs) t n g ≡ g
  stay_set g [] h = refl
  stay_set g (q ∷ qs) h = texts_behind q.actions (actions_in qs) g ∙ ap (texts_asked (actions_in qs) t n) (⊎_elim (λ i. i g) (λ i. i g) h.0) ∙ stay_set g qs h.1

  pub all_set : (g : List ℕ) (qs : List Part) → AllByRecursion (λ q. Leaves q ⊎ Sets g q) qs → HasSet g qs → (f : List ℕ) → texts_asked (actions_in qs) t n f ≡ g
  all_set g [] h i f = absurd i
  all_set g (q ∷ qs) h i f =
      texts_behind q.actions (actions_in qs) f
      ∙ ⊎_elim (λ j. ap (texts_asked (actions_in qs) t n) (j f) ∙ stay_set g qs h.1) (λ j. all_set g qs h.1 j (texts_asked q.actions t n f)) i
