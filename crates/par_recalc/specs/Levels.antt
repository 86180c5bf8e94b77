-- The levels of formula columns.
use Rattle.std.specs.Prelude.{ℕ, ◌+◌, zero, suc, Bool, true, false, not, ◌&&◌, ◌||◌, ◌≡◌, cond, List, [], ◌∷◌, ◌++◌, map, length, slice_get, Some}
use Rattle.std.specs.List.{list_all}
use Rattle.par_recalc.specs.declared.plan.ColumnFormula.{ColumnFormula}
use Rattle.par_recalc.specs.Naming.{names}

-- whether the column is in one of the first so many levels: it names no column but those of levels
-- before
abbrev pub is_below : List ColumnFormula → ℕ → ColumnFormula → Bool
is_below fs zero f = false
is_below fs (suc k) f =
    is_below fs k f || list_all (λ g. not (names f g) || is_below fs k g) fs

-- the same of all columns
abbrev pub marks : List ColumnFormula → ℕ → List Bool
marks fs k = map (is_below fs k) fs

-- a place that is marked now and was not before
abbrev pub one_anew : ℕ → Bool → Bool → List ℕ
one_anew at b c = cond (c && not b) (at ∷ []) []

-- the places from one on that are marked now and were not before
abbrev pub marked_anew : ℕ → List Bool → List Bool → List ℕ
marked_anew at (b ∷ bs) (c ∷ cs) = one_anew at b c ++ marked_anew (at + 1) bs cs
marked_anew at _ _ = []

-- the places of a level
abbrev pub places_of : List ColumnFormula → ℕ → List ℕ
places_of fs k = marked_anew 0 (marks fs k) (marks fs (suc k))

-- each level has its places, and no place is in the next one
abbrev pub AreLevels : List ColumnFormula → List (List ℕ) → Type 0
AreLevels fs ls =
    ((k : ℕ) (ps : List ℕ) → slice_get ls k ≡ Some ps → ps ≡ places_of fs k)
    × (places_of fs (length ls) ≡ [])
