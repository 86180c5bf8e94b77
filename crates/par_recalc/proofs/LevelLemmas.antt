-- Levels by what columns name.
use Rattle.std.proofs.Common.{ℕ, zero, suc, Bool, true, false, ◌&&◌, ◌||◌, ◌≡◌, refl, sym, ap, ◌∙◌, List, [], ◌∷◌, inl, inr}
use Rattle.std.specs.Prelude.{not, ⊤}
use Rattle.std.proofs.lemmas.Bool.{true≢false, false≢true, and_parts, or_left, or_parts, or_right}
use Rattle.std.specs.List.{list_all}
use Rattle.par_recalc.specs.declared.plan.ColumnFormula.{ColumnFormula}
use Rattle.par_recalc.specs.Naming.{names}
use Rattle.par_recalc.specs.Levels.{is_below}
use Rattle.par_recalc.specs.LevelLaws.{IsAmong, IsInLevel, NamesUpTo}

not_or : (a b : Bool) → (not a || b) ≡ false → (a ≡ true) × (b ≡ false)
not_or true b e = (refl, e)
not_or false b e = absurd (true≢false e)

module _ (p : ColumnFormula → Bool) where
  all_at : (xs : List ColumnFormula) (g : ColumnFormula) → IsAmong g xs → list_all p xs ≡ true → p g ≡ true
  all_at [] g i e = absurd i
  all_at (x ∷ xs) g (inl same) e = ap p same ∙ (and_parts (p x) (list_all p xs) e).0
  all_at (x ∷ xs) g (inr i) e = all_at xs g i ((and_parts (p x) (list_all p xs) e).1)

  fails_at : (xs : List ColumnFormula) → list_all p xs ≡ false → (g : ColumnFormula) × IsAmong g xs × (p g ≡ false)
  fails_at [] e = absurd (true≢false e)
  fails_at (x ∷ xs) e = by (p x) refl (λ h. fails_at xs h)
    where
      by : (b : Bool) → p x ≡ b → (list_all p xs ≡ false → (g : ColumnFormula) × IsAmong g xs × (p g ≡ false))
          → (g : ColumnFormula) × IsAmong g (x ∷ xs) × (p g ≡ false)
      by false h rest = (x, inl refl, h)
      by true h rest = let r = rest (sym (ap (λ b. b && list_all p xs) h) ∙ e) in (r.0, inr r.1, r.2)

  all_from : (xs : List ColumnFormula) → ((g : ColumnFormula) → IsAmong g xs → p g ≡ true) → list_all p xs ≡ true
  all_from [] h = refl
  all_from (x ∷ xs) h = ap (λ b. b && list_all p xs) (h x (inl refl)) ∙ all_from xs (λ g i. h g (inr i))

-- naming goes on from the column for so many steps
abbrev pub Goes : List ColumnFormula → ℕ → ColumnFormula → Type 0
Goes fs zero f = ⊤
Goes fs (suc n) f = (g : ColumnFormula) × IsAmong g fs × (names f g ≡ true) × Goes fs n g

module _ (fs : List ColumnFormula) where
  -- each column that is named is in one of the first levels
  abbrev pub is_ready : ℕ → ColumnFormula → Bool
  is_ready k f = list_all (λ g. not (names f g) || is_below fs k g) fs

  pub of_ready : (k : ℕ) (f g : ColumnFormula) → is_ready k f ≡ true → IsAmong g fs → names f g ≡ true → is_below fs k g ≡ true
  of_ready k f g r i n = sym (ap (λ b. not b || is_below fs k g) n) ∙ all_at (λ h. not (names f h) || is_below fs k h) fs g i r

  not_ready : (k : ℕ) (f : ColumnFormula) → is_ready k f ≡ false → (g : ColumnFormula) × IsAmong g fs × (names f g ≡ true) × (is_below fs k g ≡ false)
  not_ready k f e =
      let r = fails_at (λ h. not (names f h) || is_below fs k h) fs e in
      let both = not_or (names f r.0) (is_below fs k r.0) r.2 in (r.0, r.1, both.0, both.1)

  pub ready_from : (k : ℕ) (f : ColumnFormula) → ((g : ColumnFormula) → IsAmong g fs → names f g ≡ true → is_below fs k g ≡ true) → is_ready k f ≡ true
  ready_from k f all = all_from (λ h. not (names f h) || is_below fs k h) fs (λ g i. by g i (names f g) refl)
    where
      by : (g : ColumnFormula) → IsAmong g fs → (b : Bool) → names f g ≡ b → (not (names f g) || is_below fs k g) ≡ true
      by g i true n = ap (λ b. not b || is_below fs k g) n ∙ all g i n
      by g i false n = ap (λ b. not b || is_below fs k g) n

  -- what a column of the first levels names is in the levels before its own
  named_below : (k : ℕ) (f g : ColumnFormula) → is_below fs k f ≡ true → IsAmong g fs → names f g ≡ true → is_below fs k g ≡ true
  named_below zero f g e i n = absurd (false≢true e)
  named_below (suc k) f g e i n = by (is_below fs k f) refl (λ h. named_below k f g h i n)
    where
      by : (b : Bool) → is_below fs k f ≡ b → (is_below fs k f ≡ true → is_below fs k g ≡ true) → is_below fs (suc k) g ≡ true
      by true h rest = or_left (is_below fs k g) (is_ready k g) (rest h)
      by false h rest = or_left (is_below fs k g) (is_ready k g) (of_ready k f g (sym (ap (λ b. b || is_ready k f) h) ∙ e) i n)

  pub first_names : (f : ColumnFormula) → IsInLevel fs f 0 → (g : ColumnFormula) → IsAmong g fs → names f g ≡ false
  first_names f h g i = by (names f g) refl
    where
      by : (b : Bool) → names f g ≡ b → names f g ≡ false
      by true n = absurd (false≢true (of_ready 0 f g h.0 i n))
      by false n = n

  pub names_first : (f : ColumnFormula) → ((g : ColumnFormula) → IsAmong g fs → names f g ≡ false) → IsInLevel fs f 0
  names_first f h = (ready_from 0 f (λ g i n. absurd (false≢true (sym (h g i) ∙ n))), refl)

  pub next_names : (f : ColumnFormula) (k : ℕ) → IsInLevel fs f (suc k) → NamesUpTo fs f k
  next_names f k h =
      let r : is_ready (suc k) f ≡ true = sym (ap (λ b. b || is_ready (suc k) f) h.1) ∙ h.0 in
      let last = not_ready k f ((or_parts (is_below fs k f) (is_ready k f) h.1).1) in (
        (λ g i n. of_ready (suc k) f g r i n),
        (last.0, last.1, last.2, (of_ready (suc k) f last.0 r last.1 last.2, last.3)),
      )

  pub names_next : (f : ColumnFormula) (k : ℕ) → NamesUpTo fs f k → IsInLevel fs f (suc k)
  names_next f k h = (or_right (is_below fs (suc k) f) (is_ready (suc k) f) (ready_from (suc k) f h.0), by (is_below fs k f) (is_ready k f) refl refl)
    where
      by : (a b : Bool) → is_below fs k f ≡ a → is_ready k f ≡ b → (is_below fs k f || is_ready k f) ≡ false
      by true b e r = absurd (false≢true (sym h.1.3.1 ∙ named_below k f h.1.0 e h.1.1 h.1.2))
      by false true e r = absurd (false≢true (sym h.1.3.1 ∙ of_ready k f h.1.0 r h.1.1 h.1.2))
      by false false e r = ap (λ b. b || is_ready k f) e ∙ r

  pub none_goes : (n : ℕ) (f : ColumnFormula) → is_below fs n f ≡ false → Goes fs n f
  none_goes zero f e = tt
  none_goes (suc n) f e =
      let last = not_ready n f ((or_parts (is_below fs n f) (is_ready n f) e).1) in
      (last.0, last.1, last.2, none_goes n last.0 last.3)

  pub shorter : (n : ℕ) (f : ColumnFormula) → Goes fs (suc n) f → Goes fs n f
  shorter zero f h = tt
  shorter (suc n) f h = (h.0, h.1, h.2, shorter n h.0 h.3)

  pub goes_none : (n : ℕ) (f : ColumnFormula) → Goes fs n f → is_below fs n f ≡ false
  goes_none zero f h = refl
  goes_none (suc n) f h = ap (λ b. b || is_ready n f) (goes_none n f (shorter n f h)) ∙ by (is_ready n f) refl (goes_none n h.0 h.3)
    where
      by : (b : Bool) → is_ready n f ≡ b → is_below fs n h.0 ≡ false → is_ready n f ≡ false
      by true r last = absurd (true≢false (sym (of_ready n f h.0 r h.1 h.2) ∙ last))
      by false r last = r
