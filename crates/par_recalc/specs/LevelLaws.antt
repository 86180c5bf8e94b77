-- What levels mean.
use Rattle.std.specs.Prelude.{ℕ, zero, suc, Bool, true, false, ◌≡◌, ◌⊎◌, ◌↔◌, List, [], ◌∷◌, slice_get, Some, ⊤}
use Rattle.doc_model.specs.Rows.{IsAscending}
use Rattle.par_recalc.specs.declared.plan.ColumnFormula.{ColumnFormula}
use Rattle.par_recalc.specs.Naming.{names}
use Rattle.par_recalc.specs.Levels.{is_below, places_of}

-- the column is one of them
abbrev pub IsAmong : ColumnFormula → List ColumnFormula → Type 0
IsAmong g [] = ⊥
IsAmong g (f ∷ fs) = (g ≡ f) ⊎ IsAmong g fs

-- the column stands in that level
abbrev pub IsInLevel : List ColumnFormula → ColumnFormula → ℕ → Type 0
IsInLevel fs f k = (is_below fs (suc k) f ≡ true) × (is_below fs k f ≡ false)

abbrev pub HasNoLevel : List ColumnFormula → ColumnFormula → Type 0
HasNoLevel fs f = (k : ℕ) → IsInLevel fs f k → ⊥

-- no column is named
abbrev pub NamesNone : List ColumnFormula → ColumnFormula → Type 0
NamesNone fs f = (g : ColumnFormula) → IsAmong g fs → names f g ≡ false

-- each column that is named is in one of the levels up to that one, and one of them in that one
abbrev pub NamesUpTo : List ColumnFormula → ColumnFormula → ℕ → Type 0
NamesUpTo fs f k =
    ((g : ColumnFormula) → IsAmong g fs → names f g ≡ true → is_below fs (suc k) g ≡ true)
    × ((g : ColumnFormula) × IsAmong g fs × (names f g ≡ true) × IsInLevel fs g k)

-- naming leads from a column to another one, in so many steps
abbrev pub Leads : List ColumnFormula → ℕ → ColumnFormula → ColumnFormula → Type 0
Leads fs zero f g = f ≡ g
Leads fs (suc n) f g = (h : ColumnFormula) × IsAmong h fs × (names f h ≡ true) × Leads fs n h g

-- naming leads from a column to one from which it leads back
abbrev pub LeadsIntoCycle : List ColumnFormula → ColumnFormula → Type 0
LeadsIntoCycle fs f =
    (g : ColumnFormula) × ((n : ℕ) × Leads fs n f g) × ((m : ℕ) × Leads fs (suc m) g g)

-- the place is one of them
abbrev pub IsPlaceIn : ℕ → List ℕ → Type 0
IsPlaceIn p [] = ⊥
IsPlaceIn p (q ∷ ps) = (p ≡ q) ⊎ IsPlaceIn p ps

pub record LevelLaw : Type 0 where
  -- level 0 exactly where it names none
  pub first : (fs : List ColumnFormula) (f : ColumnFormula) → IsInLevel fs f 0 ↔ NamesNone fs f
  -- any other level exactly where it follows the greatest among the levels of those that it names
  pub next : (fs : List ColumnFormula) (f : ColumnFormula) (k : ℕ)
      → IsInLevel fs f (suc k) ↔ NamesUpTo fs f k
  -- at most one level
  pub one : (fs : List ColumnFormula) (f : ColumnFormula) (j k : ℕ)
      → IsInLevel fs f j → IsInLevel fs f k → j ≡ k
  -- none exactly where naming leads from it into a cycle
  pub none : (fs : List ColumnFormula) (f : ColumnFormula) → HasNoLevel fs f ↔ LeadsIntoCycle fs f
  -- the places of a level are those of its columns
  pub places : (fs : List ColumnFormula) (k p : ℕ)
      → IsPlaceIn p (places_of fs k)
      ↔ ((f : ColumnFormula) × (slice_get fs p ≡ Some f) × IsInLevel fs f k)
  -- each once, ascending
  pub ascending : (fs : List ColumnFormula) (k : ℕ) → IsAscending (places_of fs k)
