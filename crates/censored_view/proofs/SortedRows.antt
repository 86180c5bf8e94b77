-- Rows that are sorted, and that stand once, and those among them that are there.
use Rattle.std.proofs.Common.{ℕ, zero, suc, ◌+◌, ◌<◌, Bool, true, false, ◌||◌, ◌&&◌, eqb, List, [], ◌∷◌, filter, length, get_or, ◌≡◌, refl, sym, ap, subst, ◌∙◌, arith}
use Rattle.std.proofs.lemmas.Bool.{eq-eqb, eqb-true, false≢true, or_right}
use Rattle.std.proofs.lemmas.List.Kept.{Contains-dedup_nat, Contains-from_dedup}
use Rattle.std.proofs.lemmas.List.Sorted.{Contains-permutation, IsPermutation-sym}
use Rattle.std.proofs.lemmas.Map.Keys.{IsStrictlyIncreasing-dedup}
use Rattle.std.specs.List.{Contains, dedup}
use Rattle.std.specs.List.Sorted.{IsPermutation, IsSorted, IsStrictlyIncreasing}
use Rattle.std.specs.Ordering.{nat_cmp}
use Rattle.doc_model.specs.Rows.{has, IsAscending}
use Rattle.doc_model.proofs.Choices.{each_weaker}
use Rattle.doc_model.proofs.RowsLaws.{has-filter, IsAscending-filter, same_ascending}

-- tests that pass together are the same
pub same_tests : (b c : Bool) → (b ≡ true → c ≡ true) → (c ≡ true → b ≡ true) → b ≡ c
same_tests true c f g = sym (f refl)
same_tests false true f g = g refl
same_tests false false f g = refl

-- ---- what stands in a list

has_contained : (rows : List ℕ) (k q : ℕ) → k < length rows → get_or rows k q ≡ q → has rows q ≡ true
has_contained [] k q lt e = absurd (omega arith)
has_contained (r ∷ rows) zero q lt e = ap (λ b. b || has rows q) (eq-eqb r q e)
has_contained (r ∷ rows) (suc k) q lt e = or_right (eqb r q) (has rows q) (has_contained rows k q (omega (arith, lt)) e)

contained_has : (rows : List ℕ) (q : ℕ) → has rows q ≡ true → Contains rows q
contained_has [] q h = absurd (false≢true h)
contained_has (r ∷ rows) q h =
    elim (eqb r q) as (λ b. eqb r q ≡ b → (b || has rows q) ≡ true → Contains (r ∷ rows) q) [
      | true ↦ λ is _. (0, omega arith, eqb-true r q is)
      | false ↦ λ _ h. let rest : Contains rows q = contained_has rows q h in (suc rest.0, omega (arith, rest.1), rest.2)
    ] refl h

-- ---- sorting

ascending_from : (rows : List ℕ) → IsStrictlyIncreasing rows → IsAscending rows
ascending_from [] up = tt
ascending_from (r ∷ []) up = (tt, tt)
ascending_from (r ∷ q ∷ rows) up =
    let rest : IsAscending (q ∷ rows) = ascending_from (q ∷ rows) (λ k lt. let next : suc k + 1 ≡ suc (k + 1) = omega arith in subst (λ n. get_or (q ∷ rows) k 0 < get_or (r ∷ q ∷ rows) n 0) next (up (suc k) (omega (arith, lt)))) in
    let first : r < q = up 0 (omega arith) in
    ((first, each_weaker (λ p. q < p) (λ p. r < p) (λ p l. omega (arith, first, l)) rows rest.0), rest)

module _ (numbers sorted once : List ℕ) (moved : IsPermutation numbers sorted) (is : once ≡ dedup eqb sorted) where
  pub once_ascends : IsSorted nat_cmp sorted → IsAscending once
  once_ascends up = subst IsAscending (sym is) (ascending_from (dedup eqb sorted) (IsStrictlyIncreasing-dedup sorted up))

  pub once_has : (q : ℕ) → has once q ≡ has numbers q
  once_has q =
      ap (λ l. has l q) is
      ∙ same_tests (has (dedup eqb sorted) q) (has numbers q)
      (λ h. let there : Contains numbers q = Contains-permutation sorted numbers q (IsPermutation-sym numbers sorted moved) (Contains-from_dedup eqb sorted q (contained_has (dedup eqb sorted) q h)) in
      has_contained numbers there.0 q there.1 there.2)
      (λ h. let there : Contains (dedup eqb sorted) q = Contains-dedup_nat sorted q (Contains-permutation numbers sorted q moved (contained_has numbers q h)) in
      has_contained (dedup eqb sorted) there.0 q there.1 there.2)

and_swap : (a b : Bool) → (a && b) ≡ (b && a)
and_swap true true = refl
and_swap true false = refl
and_swap false true = refl
and_swap false false = refl

-- those of the wanted rows that are there are those of the rows that are wanted
pub among : (wanted once rows there : List ℕ) → IsAscending once → IsAscending rows → ((q : ℕ) → has once q ≡ has wanted q) → there ≡ filter (has rows) once → there ≡ filter (has wanted) rows
among wanted once rows there a b same is =
    is ∙ same_ascending (filter (has rows) once) (filter (has wanted) rows)
    (IsAscending-filter (has rows) once a) (IsAscending-filter (has wanted) rows b)
    (λ q. has-filter (has rows) once q ∙ ap (λ t. has rows q && t) (same q) ∙ and_swap (has rows q) (has wanted q)
    ∙ sym (has-filter (has wanted) rows q))
