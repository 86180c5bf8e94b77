-- Lists of things with ids: look-ups, and the order by the bytes of the ids.
use Rattle.std.specs.Prelude.{ℕ, Bool, true, false, cond, not, ◌&&◌, List, [], ◌∷◌, map, filter, find, ◌≡◌, ⊤, Option}
use Rattle.std.specs.List.{list_any, AllByRecursion}
use Rattle.std.specs.Str.{bytes_eq}
use Rattle.std.specs.Ordering.{nat_cmp, is_lt}
use Rattle.std.specs.Cmp.Lexicographic.{slice_cmp}

-- whether the first text stands before the second, by bytes
abbrev pub precedes : List ℕ → List ℕ → Bool
precedes a b = is_lt (slice_cmp nat_cmp a b)

module _ {X : Type 0} (id : X → List ℕ) where
  -- the first thing with this id
  abbrev pub find_id : List ℕ → List X → Option X
  find_id c xs = find (λ x. bytes_eq (id x) c) xs

  -- whether something has this id
  abbrev pub has_id : List X → List ℕ → Bool
  has_id xs c = list_any (λ x. bytes_eq (id x) c) xs

  -- no two have one id
  abbrev pub AreDistinct : List X → Type 0
  AreDistinct [] = ⊤
  AreDistinct (x ∷ xs) = AllByRecursion (λ y. bytes_eq (id x) (id y) ≡ false) xs × AreDistinct xs

  -- whether no two have one id
  abbrev pub are_distinct : List X → Bool
  are_distinct [] = true
  are_distinct (x ∷ xs) = not (has_id xs (id x)) && are_distinct xs

  -- in the order of their ids, without repeats
  abbrev pub IsByIds : List X → Type 0
  IsByIds [] = ⊤
  IsByIds (x ∷ xs) = AllByRecursion (λ y. precedes (id x) (id y) ≡ true) xs × IsByIds xs

  -- the thing in its place by id, instead of one with its id
  abbrev pub put_by_id : X → List X → List X
  put_by_id x [] = x ∷ []
  put_by_id x (y ∷ ys) =
      cond (precedes (id x) (id y)) (x ∷ y ∷ ys)
      (cond (bytes_eq (id x) (id y)) (x ∷ ys) (y ∷ put_by_id x ys))

  -- the things in the order of their ids
  abbrev pub by_id : List X → List X
  by_id [] = []
  by_id (x ∷ xs) = put_by_id x (by_id xs)

  -- the things with this id changed
  abbrev pub with_id : List ℕ → (X → X) → List X → List X
  with_id c f xs = map (λ x. cond (bytes_eq (id x) c) (f x) x) xs

  -- those with another id
  abbrev pub without_id : List ℕ → List X → List X
  without_id c xs = filter (λ x. not (bytes_eq (id x) c)) xs
