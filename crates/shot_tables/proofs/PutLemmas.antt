-- Actions put one after another, and taken back.
use Rattle.std.proofs.Common.{◌≡◌, ℕ, suc, zero, ◌+◌, ◌<◌, ◌≤◌, false, List, [], ◌∷◌, ◌++◌, drop, length, get_or, refl, sym, ap, subst, ◌∙◌, arith, add-one, drop-cons}
use Rattle.doc_model.specs.declared.action.DocAction.{DocAction}
use Rattle.doc_model.specs.Apply.{apply, apply_all}
use Rattle.doc_model.specs.Document.{Document}
use Rattle.doc_model.specs.DocumentLaws.{IsWhole}
use Rattle.doc_model.specs.Valid.{valid}
use Rattle.shot_tables.specs.TakingBack.{AllFit, taken_back}

-- behind the last one there is nothing
nothing_left : {X : Type 0} (i : ℕ) (xs : List X) → length xs ≤ i → drop i xs ≡ []
nothing_left zero [] le = refl
nothing_left zero (x ∷ xs) le = absurd (omega (arith, le))
nothing_left (suc i) [] le = refl
nothing_left (suc i) (x ∷ xs) le = nothing_left i xs (omega (arith, le))

-- what stands at an index, and what is behind it
pub left_at : {X : Type 0} (i : ℕ) (xs : List X) (x : X) → i < length xs → x ≡ get_or xs i x → drop i xs ≡ x ∷ drop (i + 1) xs
left_at i xs x lt is = rw (add-one i) (drop-cons xs i x lt ∙ ap (λ y. y ∷ drop (suc i) xs) (sym is))

-- an action that is not valid leaves the document
pub passed_over : (s : Document) (a : DocAction) → valid s a ≡ false → apply s a ≡ s
passed_over s a e = rw e refl

module _ {B : Type 0} (undone : B → Document → Document) (fits : B → Document → Type 0) where
  -- the last one is taken back first
  pub taken_back-last : (bs : List B) (b : B) (s : Document) → taken_back undone fits (bs ++ b ∷ []) s ≡ taken_back undone fits bs (undone b s)
  taken_back-last [] b s = refl
  taken_back-last (x ∷ bs) b s = ap (undone x) (taken_back-last bs b s)

  pub AllFit-last : (bs : List B) (b : B) (s : Document) → AllFit undone fits bs (undone b s) → fits b s → AllFit undone fits (bs ++ b ∷ []) s
  AllFit-last [] b s h f = (f, tt)
  AllFit-last (x ∷ bs) b s h f =
      let P : Document → Type 0 = λ t. fits x t in
      (subst P (sym (taken_back-last bs b s)) h.0, AllFit-last bs b s h.1 f)

  pub AllFit-front : (bs : List B) (b : B) (s : Document) → AllFit undone fits (bs ++ b ∷ []) s → AllFit undone fits bs (undone b s) × fits b s
  AllFit-front [] b s h = (tt, h.0)
  AllFit-front (x ∷ bs) b s h =
      let P : Document → Type 0 = λ t. fits x t in
      let rest : AllFit undone fits bs (undone b s) × fits b s = AllFit-front bs b s h.1 in
      ((subst P (taken_back-last bs b s) h.0, rest.0), rest.1)

  -- so many actions are put, and can be taken back
  pub record IsPutting (start : Document) (actions : List DocAction) (old : List B) (i : ℕ) (s : Document) (bs : List B) : Type 0 where
    pub leads : apply_all s (drop i actions) ≡ apply_all start actions
    pub whole : IsWhole s
    pub fit : AllFit undone fits bs s
    pub back : taken_back undone fits bs s ≡ taken_back undone fits old start

  module _ (start : Document) (actions : List DocAction) (old : List B) (i : ℕ) (s : Document) (bs : List B) (h : IsPutting start actions old i s bs) where
    pub putting_next : (a : DocAction) (t : Document) (cs : List B) → drop i actions ≡ a ∷ drop (i + 1) actions → t ≡ apply s a → IsWhole t → AllFit undone fits cs t → taken_back undone fits cs t ≡ taken_back undone fits bs s → IsPutting start actions old (i + 1) t cs
    putting_next a t cs e done whole fit back = record {
      leads = ap (λ u. apply_all u (drop (i + 1) actions)) done ∙ ap (apply_all s) (sym e) ∙ h.leads;
      whole = whole;
      fit = fit;
      back = back ∙ h.back;
    }

    pub putting_ends : length actions ≤ i → s ≡ apply_all start actions
    putting_ends le = ap (apply_all s) (sym (nothing_left i actions le)) ∙ h.leads

  -- what was put from the start on is taken back from there
  pub record IsTaking (old : List B) (start : Document) (bs : List B) (s : Document) : Type 0 where
    pub fit : AllFit undone fits bs s
    pub back : taken_back undone fits bs s ≡ taken_back undone fits old start

  pub taking_next : (old : List B) (start : Document) (bs rest : List B) (b : B) (s t : Document) → IsTaking old start bs s → bs ≡ rest ++ b ∷ [] → t ≡ undone b s → IsTaking old start rest t
  taking_next old start bs rest b s t h e is =
      let P : List B → Type 0 = λ l. AllFit undone fits l s in
      let R : Document → Type 0 = λ u. AllFit undone fits rest u in
      let parts : AllFit undone fits rest (undone b s) × fits b s = AllFit-front rest b s (subst P e h.fit) in
      record {
        fit = subst R (sym is) parts.0;
        back = ap (taken_back undone fits rest) is ∙ sym (taken_back-last rest b s) ∙ ap (λ l. taken_back undone fits l s) (sym e) ∙ h.back;
      }

  pub taking_fits : (old : List B) (start : Document) (bs rest : List B) (b : B) (s : Document) → IsTaking old start bs s → bs ≡ rest ++ b ∷ [] → fits b s
  taking_fits old start bs rest b s h e = let P : List B → Type 0 = λ l. AllFit undone fits l s in (AllFit-front rest b s (subst P e h.fit)).1
