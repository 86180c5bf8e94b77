-- Names that have numbers: the number of a name is its place among them.
use Rattle.std.specs.Prelude.{ℕ, suc, ◌≤◌, cond, List, [], ◌∷◌, length, Option, Some, None, slice_get, ◌≡◌}
use Rattle.std.specs.Option.{option_map}
use Rattle.std.specs.Str.{bytes_eq}

-- the number of a name
abbrev pub number_in : List (List ℕ) → List ℕ → Option ℕ
number_in [] name = None
number_in (n ∷ names) name = cond (bytes_eq n name) (Some 0) (option_map suc (number_in names name))

-- numbers stay, and new ones follow those that there were
pub record IsGrown (old new : List (List ℕ)) : Type 0 where
  pub stays : (name : List ℕ) (n : ℕ) → number_in old name ≡ Some n → number_in new name ≡ Some n
  pub follows : (name : List ℕ) (n : ℕ) → number_in old name ≡ None → number_in new name ≡ Some n
      → length old ≤ n
  pub longer : length old ≤ length new

-- a name stands at its number, so no two names have one number
abbrev pub NumberLaw : Type 0
NumberLaw = (names : List (List ℕ)) (name : List ℕ) (n : ℕ)
    → number_in names name ≡ Some n → slice_get names n ≡ Some name

-- each name has the number of its place, so none stands twice
abbrev pub AreNumbered : List (List ℕ) → Type 0
AreNumbered names = (n : ℕ) (name : List ℕ)
    → slice_get names n ≡ Some name → number_in names name ≡ Some n
