-- Where a name goes among names that stand by their bytes.
use Rattle.std.specs.Prelude.{ℕ, suc, List, ◌∷◌, ◌++◌, take, drop, length, ◌≡◌, ◌<◌, ◌≤◌}
use Rattle.doc_model.specs.ByIds.{by_id, put_by_id}

abbrev pub itself : List ℕ → List ℕ
itself id = id

-- the ids by bytes
abbrev pub in_order : List (List ℕ) → List (List ℕ)
in_order ids = by_id itself ids

module _ {X : Type 0} (id : X → List ℕ) where
  -- what has this id goes over what stands at the index
  pub record GoesOver (c : List ℕ) (xs : List X) (i : ℕ) : Type 0 where
    pub within : i < length xs
    pub placed : (x : X) → id x ≡ c → put_by_id id x xs ≡ take i xs ++ x ∷ drop (suc i) xs

  -- what has this id goes before what stands at the index, or to the end
  pub record GoesBefore (c : List ℕ) (xs : List X) (i : ℕ) : Type 0 where
    pub within : i ≤ length xs
    pub placed : (x : X) → id x ≡ c → put_by_id id x xs ≡ take i xs ++ x ∷ drop i xs
