-- Rows of rules sorted by their places.
use Rattle.std.proofs.Common.{◌≡◌, ◌∙◌, ap, refl, sym, subst, ℕ, ◌+◌, ◌<◌, arith, ℤ, Bool, true, false, cond, List, [], ◌∷◌, map, nat_lt, ◌==◌, ◌<ℤ◌, Ordering, Less, Equal, Greater}
use Rattle.std.specs.Prelude.{int_lt}
use Rattle.std.specs.Ordering.{int_cmp, is_lt, nat_cmp, ordering_reverse, ordering_then, MatchOrdering}
use Rattle.std.specs.List.{AllByRecursion, sum_by}
use Rattle.std.specs.List.Sorted.{IsPermutation, IsSorted}
use Rattle.std.specs.Cmp.{IsStrictWeakOrder, int_ranks, on_total, ranks, then_total}
use Rattle.std.proofs.lemmas.Bool.{le-ltb}
use Rattle.std.proofs.lemmas.Cmp.{int_cmp_total, nat_cmp_total}
use Rattle.std.proofs.lemmas.List.MinMax.{ranks_by}
use Rattle.std.proofs.lemmas.List.Sorted.{sum_by-IsPermutation}
use Rattle.std.proofs.lemmas.List.Sums.{sum_by-cons}
use Rattle.doc_model.specs.Document.{Document}
use Rattle.doc_model.specs.Rows.{IsAscending}
use Rattle.acl_rules.specs.Loaded.{by_place, place_of, put_by_place}
use Rattle.acl_rules.specs.Placing.{placed}
use Rattle.acl_rules.proofs.SortLemmas.{Rises, sorted_rises, unique}

-- how pairs of a place and a row are compared
abbrev compared : ℤ × ℕ → ℤ × ℕ → Ordering
compared x y = ordering_then (int_cmp x.0 y.0) (nat_cmp x.1 y.1)

abbrev below : ℤ × ℕ → ℤ × ℕ → Bool
below x y = is_lt (compared x y)

order : IsStrictWeakOrder below
order = ranks_by (then_total (on_total (λ t. t.0) int_cmp_total) (on_total (λ t. t.1) nat_cmp_total)) (λ t. t)

not_below_itself : (x : ℤ × ℕ) → below x x ≡ false
not_below_itself x = by (below x x) refl
  where
    by : (b : Bool) → below x x ≡ b → below x x ≡ false
    by true e = order.one_way x x e
    by false e = e

tied : (x y : ℤ × ℕ) → below x y ≡ false → below y x ≡ false → x ≡ y
tied x y h i = by (int_cmp x.0 y.0) (nat_cmp x.1 y.1) refl refl (int_ranks x.0 y.0) (ranks x.1 y.1)
  where
    back : int_cmp y.0 x.0 ≡ ordering_reverse (int_cmp x.0 y.0)
    back = int_cmp_total.antisymm y.0 x.0

    back_row : nat_cmp y.1 x.1 ≡ ordering_reverse (nat_cmp x.1 y.1)
    back_row = nat_cmp_total.antisymm y.1 x.1

    by : (o p : Ordering) → int_cmp x.0 y.0 ≡ o → nat_cmp x.1 y.1 ≡ p → MatchOrdering (int_cmp x.0 y.0) (x.0 <ℤ y.0) (x.0 ≡ y.0) (y.0 <ℤ x.0) → MatchOrdering (nat_cmp x.1 y.1) (x.1 < y.1) (x.1 ≡ y.1) (y.1 < x.1) → x ≡ y
    by Less p e f m n = absurd (cc)
    by Greater p e f m n = let b = back in absurd (cc)
    by Equal Less e f m n = absurd (cc)
    by Equal Greater e f m n = let b = back in let d = back_row in absurd (cc)
    by Equal Equal e f m n =
        let place : x.0 ≡ y.0 = subst (λ (o : Ordering). MatchOrdering o (x.0 <ℤ y.0) (x.0 ≡ y.0) (y.0 <ℤ x.0)) e m in
        let row : x.1 ≡ y.1 = subst (λ (o : Ordering). MatchOrdering o (x.1 < y.1) (x.1 ≡ y.1) (y.1 < x.1)) f n in
        λ k. (place k, row k)

-- a pair is not below one of no greater place and a lesser row
behind : (x y : ℤ × ℕ) → int_lt x.0 y.0 ≡ false → y.1 < x.1 → below x y ≡ false
behind x y e later = by (int_lt y.0 x.0) (x.1 == y.1) refl refl
  where
    greater : nat_lt x.1 y.1 ≡ false
    greater = le-ltb x.1 y.1 (omega (arith, later))

    by : (a b : Bool) → int_lt y.0 x.0 ≡ a → (x.1 == y.1) ≡ b → below x y ≡ false
    by true b f g = cc
    by false true f g = let h = greater in cc
    by false false f g = let h = greater in cc

-- a pair is below one of a greater place
ahead : (x y : ℤ × ℕ) → int_lt x.0 y.0 ≡ true → below x y ≡ true
ahead x y e = cc

module _ (s : Document) where
  -- the same of rows
  abbrev row_below : ℕ → ℕ → Bool
  row_below q r = below (placed s q) (placed s r)

  all_put : (P : ℕ → Type 0) (r : ℕ) (rows : List ℕ) → P r → AllByRecursion P rows → AllByRecursion P (put_by_place s r rows)
  all_put P r [] h all = (h, tt)
  all_put P r (q ∷ rows) h all = elim (int_lt (place_of s q) (place_of s r)) as (λ b. AllByRecursion P (cond b (q ∷ put_by_place s r rows) (r ∷ q ∷ rows))) [
    | true ↦ (all.0, all_put P r rows h all.1)
    | false ↦ (h, all)
  ]

  all_by : (P : ℕ → Type 0) (rows : List ℕ) → AllByRecursion P rows → AllByRecursion P (by_place s rows)
  all_by P [] all = tt
  all_by P (r ∷ rows) all = all_put P r (by_place s rows) all.0 (all_by P rows all.1)

  all_chained : (q r : ℕ) (rows : List ℕ) → row_below q r ≡ false → AllByRecursion (λ z. row_below z q ≡ false) rows → AllByRecursion (λ z. row_below z r ≡ false) rows
  all_chained q r [] h all = tt
  all_chained q r (z ∷ rows) h all = (order.chain (placed s z) (placed s q) (placed s r) all.0 h, all_chained q r rows h all.1)

  put_rises : (r : ℕ) (rows : List ℕ) → AllByRecursion (λ q. r < q) rows → Rises row_below rows → Rises row_below (put_by_place s r rows)
  put_rises r [] later h = (tt, tt)
  put_rises r (q ∷ rows) later h = by (int_lt (place_of s q) (place_of s r)) refl (put_rises r rows later.1 h.1)
    where
      by : (b : Bool) → int_lt (place_of s q) (place_of s r) ≡ b → Rises row_below (put_by_place s r rows) → Rises row_below (cond b (q ∷ put_by_place s r rows) (r ∷ q ∷ rows))
      by true e rest =
          let first : row_below q r ≡ true = ahead (placed s q) (placed s r) e in
          (all_put (λ z. row_below z q ≡ false) r rows (order.one_way (placed s q) (placed s r) first) h.0, rest)
      by false e rest =
          let first = behind (placed s q) (placed s r) e later.0 in
          ((first, all_chained q r rows first h.0), h)

  place_rises : (rows : List ℕ) → IsAscending rows → Rises row_below (by_place s rows)
  place_rises [] up = tt
  place_rises (r ∷ rows) up = put_rises r (by_place s rows) (all_by (λ q. r < q) rows up.0) (place_rises rows up.1)

  all_placed : (P : ℤ × ℕ → Type 0) (rows : List ℕ) → AllByRecursion (λ r. P (placed s r)) rows → AllByRecursion P (map (placed s) rows)
  all_placed P [] all = tt
  all_placed P (r ∷ rows) all = (all.0, all_placed P rows all.1)

  placed_rises : (rows : List ℕ) → Rises row_below rows → Rises below (map (placed s) rows)
  placed_rises [] h = tt
  placed_rises (r ∷ rows) h = (all_placed (λ z. below z (placed s r) ≡ false) rows h.0, placed_rises rows h.1)

  module _ (f : ℤ × ℕ → ℕ) where
    sum_put : (r : ℕ) (rows : List ℕ) → sum_by f (map (placed s) (put_by_place s r rows)) ≡ f (placed s r) + sum_by f (map (placed s) rows)
    sum_put r [] = sum_by-cons f (placed s r) []
    sum_put r (q ∷ rows) = by (int_lt (place_of s q) (place_of s r)) (sum_put r rows)
      where
        by : (b : Bool) → sum_by f (map (placed s) (put_by_place s r rows)) ≡ f (placed s r) + sum_by f (map (placed s) rows)
            → sum_by f (map (placed s) (cond b (q ∷ put_by_place s r rows) (r ∷ q ∷ rows))) ≡ f (placed s r) + sum_by f (map (placed s) (q ∷ rows))
        by true rest =
            let a = sum_by-cons f (placed s q) (map (placed s) (put_by_place s r rows)) in
            let b = sum_by-cons f (placed s q) (map (placed s) rows) in
            omega (arith, rest, a, b)
        by false rest = sum_by-cons f (placed s r) (map (placed s) (q ∷ rows))

    sum_placed : (rows : List ℕ) → sum_by f (map (placed s) (by_place s rows)) ≡ sum_by f (map (placed s) rows)
    sum_placed [] = refl
    sum_placed (r ∷ rows) =
        let a = sum_put r (by_place s rows) in
        let b = sum_placed rows in
        let c = sum_by-cons f (placed s r) (map (placed s) rows) in
        omega (arith, a, b, c)

  -- what a sort of the pairs gives
  pub sorted_placed : (rows : List ℕ) → IsAscending rows → (ys : List (ℤ × ℕ)) → IsPermutation (map (placed s) rows) ys → IsSorted compared ys → ys ≡ map (placed s) (by_place s rows)
  sorted_placed rows up ys moved sorted =
      unique below tied not_below_itself ys (map (placed s) (by_place s rows)) (sorted_rises below order ys sorted) (placed_rises (by_place s rows) (place_rises rows up))
      (λ f. sum_by-IsPermutation f (map (placed s) rows) ys moved ∙ sym (sum_placed f rows))
