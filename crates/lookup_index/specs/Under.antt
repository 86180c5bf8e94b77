-- The rows under each key of an index. An index is its entries, read by `under_key` alone.
use Rattle.std.specs.Prelude.{ℕ, ◌<◌, ◌≤◌, Bool, cond, nat_eq, ◌≡◌, List, [], ◌∷◌, Option, Some, None, Vec, length, vec_capacity}
use Rattle.std.specs.Global.{Global}
use Rattle.std.specs.Map.{lookup}
use Rattle.doc_model.specs.Rows.{insert_row, without, IsAscending}

-- the rows of a list that may be missing
abbrev pub listed : Option (Vec ℕ Global) → List ℕ
listed None = []
listed (Some rows) = rows.items

-- for how many rows a list that may be missing has room
abbrev pub capacity_of : Option (Vec ℕ Global) → ℕ
capacity_of None = 0
capacity_of (Some rows) = vec_capacity rows

-- whether the list is there and has room for one row more
abbrev pub IsRoomy : Option (Vec ℕ Global) → Type 0
IsRoomy None = ⊥
IsRoomy (Some rows) = length rows.items < vec_capacity rows

module _ {K : Type 0} (eq : K → K → Bool) where
  -- the rows under a key
  abbrev pub under_key : List (K × Vec ℕ Global) → K → List ℕ
  under_key lists key = listed (lookup (eq key) lists)

  -- the row is under the key, and all else as before
  abbrev pub IsPutUnder : List (K × Vec ℕ Global) → List (K × Vec ℕ Global) → K → ℕ → Type 0
  IsPutUnder old new key row = (q : K)
      → under_key new q ≡ cond (eq key q) (insert_row row (under_key old q)) (under_key old q)

  -- the row is not under the key, and all else as before
  abbrev pub IsTakenFrom : List (K × Vec ℕ Global) → List (K × Vec ℕ Global) → K → ℕ → Type 0
  IsTakenFrom old new key row = (q : K)
      → under_key new q ≡ cond (eq key q) (without (row ∷ []) (under_key old q)) (under_key old q)

  -- both have the same rows under each key
  abbrev pub HasSameRows : List (K × Vec ℕ Global) → List (K × Vec ℕ Global) → Type 0
  HasSameRows old new = (q : K) → under_key new q ≡ under_key old q

  -- the rows under each key ascend
  abbrev pub AllAscend : List (K × Vec ℕ Global) → Type 0
  AllAscend lists = (q : K) → IsAscending (under_key lists q)

  -- one row more can be put under the key without memory
  abbrev pub HasRoom : List (K × Vec ℕ Global) → K → Type 0
  HasRoom lists key = IsRoomy (lookup (eq key) lists)

  -- under each key there is room for as many rows as before, at least
  abbrev pub KeepsRoom : List (K × Vec ℕ Global) → List (K × Vec ℕ Global) → Type 0
  KeepsRoom old new =
      (q : K) → capacity_of (lookup (eq q) old) ≤ capacity_of (lookup (eq q) new)

-- the rows under a bucket
abbrev pub under : List (ℕ × Vec ℕ Global) → ℕ → List ℕ
under lists bucket = listed (lookup (nat_eq bucket) lists)

-- the row is under the bucket, and all else as before
abbrev pub IsInserted : List (ℕ × Vec ℕ Global) → List (ℕ × Vec ℕ Global) → ℕ → ℕ → Type 0
IsInserted old new bucket row =
    (q : ℕ) → under new q ≡ cond (nat_eq bucket q) (insert_row row (under old q)) (under old q)

-- the row is not under the bucket, and all else as before
abbrev pub IsRemoved : List (ℕ × Vec ℕ Global) → List (ℕ × Vec ℕ Global) → ℕ → ℕ → Type 0
IsRemoved old new bucket row = (q : ℕ)
    → under new q ≡ cond (nat_eq bucket q) (without (row ∷ []) (under old q)) (under old q)

-- both have the same rows under each bucket
abbrev pub IsSameIndex : List (ℕ × Vec ℕ Global) → List (ℕ × Vec ℕ Global) → Type 0
IsSameIndex old new = (q : ℕ) → under new q ≡ under old q

-- the rows under each bucket ascend
abbrev pub AreAscending : List (ℕ × Vec ℕ Global) → Type 0
AreAscending lists = (q : ℕ) → IsAscending (under lists q)
