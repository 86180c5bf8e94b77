-- Rows that ascend: none stands twice.
use Rattle.std.proofs.Common.{ℕ, suc, ◌+◌, ◌<◌, ◌≤◌, true, false, not, nat_le, eqb, List, [], ◌∷◌, length, get_or, ◌≡◌, refl, sym, ap, ◌∙◌, arith}
use Rattle.std.proofs.lemmas.Bool.{and_parts, eqb-false, le-leb, leb-true, or_parts, true≢false}
use Rattle.std.proofs.lemmas.List.Sorted.{sum_by-IsPermutation, IsPermutation-sym}
use Rattle.std.proofs.lemmas.List.Sums.{sum_by-cons}
use Rattle.std.specs.List.{AllByRecursion, sum_by}
use Rattle.std.specs.List.Sorted.{IsNonDecreasing, IsPermutation}
use Rattle.doc_actions.specs.Parts.{ascends_from}
use Rattle.doc_model.specs.Rows.{IsAscending, has, has_no_duplicates}
use Rattle.doc_model.proofs.Choices.{both_true, each_weaker, false_from, not_true}
use Rattle.doc_model.proofs.RowsLaws.{has_below}
use Rattle.doc_model.proofs.TimesLaws.{one_if, times, times-once, once-times}

-- numbers that ascend from one on are not below it, and ascend
ascending_from : (n : ℕ) (rows : List ℕ) → ascends_from n rows ≡ true → AllByRecursion (λ q. n ≤ q) rows × IsAscending rows
ascending_from n [] h = (tt, tt)
ascending_from n (r ∷ rows) h =
    let two : (nat_le n r ≡ true) × (ascends_from (r + 1) rows ≡ true) = and_parts (nat_le n r) (ascends_from (r + 1) rows) h in
    let rest : AllByRecursion (λ q. r + 1 ≤ q) rows × IsAscending rows = ascending_from (r + 1) rows two.1 in
    let le : n ≤ r = leb-true n r two.0 in
    ((le, each_weaker (λ q. r + 1 ≤ q) (λ q. n ≤ q) (λ q l. omega arith) rows rest.0), (each_weaker (λ q. r + 1 ≤ q) (λ q. r < q) (λ q l. omega arith) rows rest.0, rest.1))

once_ascending : (rows : List ℕ) → IsAscending rows → has_no_duplicates rows ≡ true
once_ascending [] a = refl
once_ascending (r ∷ rows) a = both_true (not (has rows r)) (has_no_duplicates rows) (ap not (has_below r rows a.0)) (once_ascending rows a.1)

-- rows that ascend stand once
pub once_from : (rows : List ℕ) → ascends_from 0 rows ≡ true → has_no_duplicates rows ≡ true
once_from rows h = once_ascending rows (ascending_from 0 rows h).1

-- a number stands as often in a list as in another order of it
times-sum : (r : ℕ) (rows : List ℕ) → times r rows ≡ sum_by (λ q. one_if (eqb q r)) rows
times-sum r [] = refl
times-sum r (q ∷ rows) = ap (λ n. one_if (eqb q r) + n) (times-sum r rows) ∙ sym (sum_by-cons (λ q. one_if (eqb q r)) q rows)

once-permutation : (xs ys : List ℕ) → IsPermutation xs ys → has_no_duplicates xs ≡ true → has_no_duplicates ys ≡ true
once-permutation xs ys moved once = once-times ys (λ r.
    let same : times r ys ≡ times r xs = times-sum r ys ∙ sum_by-IsPermutation (λ q. one_if (eqb q r)) xs ys moved ∙ sym (times-sum r xs) in
    let most : times r xs ≤ 1 = times-once r xs once in
    omega arith)

-- numbers in order that stand once ascend
ascends_once : (n : ℕ) (rows : List ℕ) → AllByRecursion (λ q. n ≤ q) rows → ((i j : ℕ) → i ≤ j → j < length rows → get_or rows i 0 ≤ get_or rows j 0) → has_no_duplicates rows ≡ true → ascends_from n rows ≡ true
ascends_once n [] low order once = refl
ascends_once n (r ∷ rows) low order once =
    let both : (not (has rows r) ≡ true) × (has_no_duplicates rows ≡ true) = and_parts (not (has rows r)) (has_no_duplicates rows) once in
    both_true (nat_le n r) (ascends_from (r + 1) rows) (le-leb n r low.0)
    (ascends_once (r + 1) rows (above rows (λ j l. order 0 (suc j) (omega arith) (omega arith)) (not_true (has rows r) both.0)) (λ i j le l. order (suc i) (suc j) (omega arith) (omega arith)) both.1)
  where
    above : (rows : List ℕ) → ((j : ℕ) → j < length rows → r ≤ get_or rows j 0) → has rows r ≡ false → AllByRecursion (λ q. r + 1 ≤ q) rows
    above [] low absent = tt
    above (q ∷ rows) low absent =
        let parts : (eqb q r ≡ false) × (has rows r ≡ false) = or_parts (eqb q r) (has rows r) absent in
        let ne : q ≡ r → ⊥ = eqb-false q r parts.0 in
        let le : r ≤ q = low 0 (omega arith) in
        (omega arith, above rows (λ j l. low (suc j) (omega arith)) parts.1)

all_low : (rows : List ℕ) → AllByRecursion (λ q. 0 ≤ q) rows
all_low [] = tt
all_low (r ∷ rows) = (omega arith, all_low rows)

-- rows stand once exactly where they ascend when they are put in order
pub once_sorted : (rows ys : List ℕ) → IsPermutation rows ys → IsNonDecreasing ys → ascends_from 0 ys ≡ has_no_duplicates rows
once_sorted rows ys moved order =
    elim (ascends_from 0 ys) as (λ b. ascends_from 0 ys ≡ b → b ≡ has_no_duplicates rows) [
      | true ↦ λ up. sym (once-permutation ys rows (IsPermutation-sym rows ys moved) (once_from ys up))
      | false ↦ λ not_up. sym (false_from (has_no_duplicates rows) (λ once.
          true≢false (sym (ascends_once 0 ys (all_low ys) (λ i j le l. order i j 0 le l) (once-permutation rows ys moved once)) ∙ not_up)))
    ] refl

pub ruleset once_by_order = (once_from, once_sorted)
