-- Actions done one after another, and taken back.
use Rattle.std.proofs.Common.{◌≡◌, ℕ, suc, zero, ◌+◌, ◌<◌, ◌≤◌, true, List, [], ◌∷◌, ◌++◌, drop, length, get_or, refl, sym, ap, subst, ◌∙◌, arith, add-one, drop-cons}
use Rattle.std.proofs.lemmas.Bool.{and_parts}
use Rattle.doc_model.specs.declared.action.DocAction.{DocAction}
use Rattle.doc_model.specs.Apply.{apply, apply_all, all_valid}
use Rattle.doc_model.specs.Document.{Document}
use Rattle.doc_model.specs.Valid.{valid}
use Rattle.bundle_judge.specs.Rollback.{rolled_back, AllFit}

-- behind the last one there is nothing
pub nothing_left : {X : Type 0} (i : ℕ) (xs : List X) → length xs ≤ i → drop i xs ≡ []
nothing_left zero [] le = refl
nothing_left zero (x ∷ xs) le = absurd (omega (arith, le))
nothing_left (suc i) [] le = refl
nothing_left (suc i) (x ∷ xs) le = nothing_left i xs (omega (arith, le))

-- what stands at an index, and what is behind it
pub left_at : {X : Type 0} (i : ℕ) (xs : List X) (x : X) → i < length xs → x ≡ get_or xs i x → drop i xs ≡ x ∷ drop (i + 1) xs
left_at i xs x lt is = rw (add-one i) (drop-cons xs i x lt ∙ ap (λ y. y ∷ drop (suc i) xs) (sym is))

module _ {B : Type 0} (undone : B → Document → Document) (fits : B → Document → Type 0) where
  -- the last one is taken back first
  pub rolled_back-last : (bs : List B) (b : B) (s : Document) → rolled_back undone fits (bs ++ b ∷ []) s ≡ rolled_back undone fits bs (undone b s)
  rolled_back-last [] b s = refl
  rolled_back-last (x ∷ bs) b s = ap (undone x) (rolled_back-last bs b s)

  pub AllFit-last : (bs : List B) (b : B) (s : Document) → AllFit undone fits bs (undone b s) → fits b s → AllFit undone fits (bs ++ b ∷ []) s
  AllFit-last [] b s h f = (f, tt)
  AllFit-last (x ∷ bs) b s h f =
      let P : Document → Type 0 = λ t. fits x t in
      (subst P (sym (rolled_back-last bs b s)) h.0, AllFit-last bs b s h.1 f)

  pub AllFit-front : (bs : List B) (b : B) (s : Document) → AllFit undone fits (bs ++ b ∷ []) s → AllFit undone fits bs (undone b s) × fits b s
  AllFit-front [] b s h = (tt, h.0)
  AllFit-front (x ∷ bs) b s h =
      let P : Document → Type 0 = λ t. fits x t in
      let rest : AllFit undone fits bs (undone b s) × fits b s = AllFit-front bs b s h.1 in
      ((subst P (rolled_back-last bs b s) h.0, rest.0), rest.1)

  -- so many actions are done, and can be taken back
  pub record IsDoing (start : Document) (actions : List DocAction) (old : List B) (i : ℕ) (s : Document) (bs : List B) : Type 0 where
    pub leads : apply_all s (drop i actions) ≡ apply_all start actions
    pub may : all_valid s (drop i actions) ≡ true
    pub fit : AllFit undone fits bs s
    pub back : rolled_back undone fits bs s ≡ rolled_back undone fits old start

  module _ (start : Document) (actions : List DocAction) (old : List B) (i : ℕ) (s : Document) (bs : List B) (h : IsDoing start actions old i s bs) where
    pub doing_valid : (a : DocAction) → drop i actions ≡ a ∷ drop (i + 1) actions → valid s a ≡ true
    doing_valid a e =
        let P : List DocAction → Type 0 = λ l. all_valid s l ≡ true in
        (and_parts (valid s a) (all_valid (apply s a) (drop (i + 1) actions)) (subst P e h.may)).0

    pub doing_next : (a : DocAction) (t : Document) (cs : List B) → drop i actions ≡ a ∷ drop (i + 1) actions → t ≡ apply s a → AllFit undone fits cs t → rolled_back undone fits cs t ≡ rolled_back undone fits bs s → IsDoing start actions old (i + 1) t cs
    doing_next a t cs e done fit back =
        let P : List DocAction → Type 0 = λ l. all_valid s l ≡ true in
        let Q : Document → Type 0 = λ u. all_valid u (drop (i + 1) actions) ≡ true in
        record {
          leads = ap (λ u. apply_all u (drop (i + 1) actions)) done ∙ ap (apply_all s) (sym e) ∙ h.leads;
          may = subst Q (sym done) (and_parts (valid s a) (all_valid (apply s a) (drop (i + 1) actions)) (subst P e h.may)).1;
          fit = fit;
          back = back ∙ h.back;
        }

    pub doing_ends : length actions ≤ i → s ≡ apply_all start actions
    doing_ends le = ap (apply_all s) (sym (nothing_left i actions le)) ∙ h.leads

  -- what was done from the start on is taken back from there
  pub record IsUndoing (old : List B) (start : Document) (bs : List B) (s : Document) : Type 0 where
    pub fit : AllFit undone fits bs s
    pub back : rolled_back undone fits bs s ≡ rolled_back undone fits old start

  pub undoing_next : (old : List B) (start : Document) (bs rest : List B) (b : B) (s t : Document) → IsUndoing old start bs s → bs ≡ rest ++ b ∷ [] → t ≡ undone b s → IsUndoing old start rest t
  undoing_next old start bs rest b s t h e is =
      let P : List B → Type 0 = λ l. AllFit undone fits l s in
      let R : Document → Type 0 = λ u. AllFit undone fits rest u in
      let parts : AllFit undone fits rest (undone b s) × fits b s = AllFit-front rest b s (subst P e h.fit) in
      record {
        fit = subst R (sym is) parts.0;
        back = ap (rolled_back undone fits rest) is ∙ sym (rolled_back-last rest b s) ∙ ap (λ l. rolled_back undone fits l s) (sym e) ∙ h.back;
      }

  pub undoing_fits : (old : List B) (start : Document) (bs rest : List B) (b : B) (s : Document) → IsUndoing old start bs s → bs ≡ rest ++ b ∷ [] → fits b s
  undoing_fits old start bs rest b s h e = let P : List B → Type 0 = λ l. AllFit undone fits l s in (AllFit-front rest b s (subst P e h.fit)).1
