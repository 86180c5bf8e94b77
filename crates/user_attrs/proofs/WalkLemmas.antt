-- A walk over the columns of a table.
use Rattle.std.proofs.Common.{◌≡◌, ◌∙◌, ap, refl, sym, ℕ, zero, suc, ◌+◌, ◌<◌, List, [], ◌∷◌, ◌++◌, map, length, drop, slice_get, Some, None, arith, append_assoc}
use Rattle.std.proofs.lemmas.List.{append-nil}

module _ {X : Type 0} where
  drop_at : (xs : List X) (i j : ℕ) (x : X) → j ≡ suc i → slice_get xs i ≡ Some x → drop i xs ≡ x ∷ drop j xs
  drop_at [] zero j x next h = absurd (cc)
  drop_at [] (suc i) j x next h = absurd (cc)
  drop_at (y ∷ xs) zero j x next h = let same : y ≡ x = cc in ap (λ z. z ∷ xs) same ∙ ap (λ n. x ∷ drop n (y ∷ xs)) (sym next)
  drop_at (y ∷ xs) (suc i) j x next h = drop_at xs i (suc i) x refl h ∙ ap (λ n. x ∷ drop n (y ∷ xs)) (sym next)

  drop_past : (xs : List X) (i : ℕ) → slice_get xs i ≡ None → drop i xs ≡ []
  drop_past [] zero h = refl
  drop_past [] (suc i) h = refl
  drop_past (y ∷ xs) zero h = absurd (cc)
  drop_past (y ∷ xs) (suc i) h = drop_past xs i h

  pub within_length : (xs : List X) (i : ℕ) (x : X) → slice_get xs i ≡ Some x → i < length xs
  within_length [] zero x h = absurd (cc)
  within_length [] (suc i) x h = absurd (cc)
  within_length (y ∷ xs) zero x h = omega arith
  within_length (y ∷ xs) (suc i) x h = let rest = within_length xs i x h in omega (arith, rest)

module _ {X Y : Type 0} where
  -- one more is made
  pub walk_on : (f : X → Y) (xs : List X) (made more all : List Y) (i : ℕ) (x : X) (y : Y) → slice_get xs i ≡ Some x → y ≡ f x → more ≡ made ++ y ∷ []
      → made ++ map f (drop i xs) ≡ all → more ++ map f (drop (i + 1) xs) ≡ all
  walk_on f xs made more all i x y at is push so_far =
      ap (λ (ys : List Y). ys ++ map f (drop (i + 1) xs)) push
      ∙ append_assoc made (y ∷ []) (map f (drop (i + 1) xs))
      ∙ ap (λ (z : Y). made ++ z ∷ map f (drop (i + 1) xs)) is
      ∙ sym (ap (λ (rest : List X). made ++ map f rest) (drop_at xs i (i + 1) x (omega arith) at))
      ∙ so_far

  -- all are made
  pub walk_ends : (f : X → Y) (xs : List X) (made all : List Y) (i : ℕ) → slice_get xs i ≡ None → made ++ map f (drop i xs) ≡ all → made ≡ all
  walk_ends f xs made all i past so_far =
      sym (append-nil made) ∙ sym (ap (λ (rest : List X). made ++ map f rest) (drop_past xs i past)) ∙ so_far
