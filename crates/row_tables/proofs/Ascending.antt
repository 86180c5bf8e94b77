-- Rows of which each is below the next ascend.
use Rattle.std.proofs.Common.{ℕ, suc, zero, ◌+◌, ◌<◌, ◌≤◌, List, [], ◌∷◌, drop, length, get_or, ◌≡◌, subst, arith}
use Rattle.std.specs.List.{AllByRecursion}
use Rattle.doc_model.specs.Rows.{IsAscending}

all_above : (r q : ℕ) (rows : List ℕ) → r < q → AllByRecursion (λ p. q < p) rows → AllByRecursion (λ p. r < p) rows
all_above r q [] lt h = tt
all_above r q (p ∷ rows) lt h = (omega (arith, lt, h.0), all_above r q rows lt h.1)

-- a row before ascending rows, the first of which is greater
pub before_ascending : (r q : ℕ) (rows : List ℕ) → r < q → IsAscending (q ∷ rows) → IsAscending (r ∷ q ∷ rows)
before_ascending r q rows lt h = ((lt, all_above r q rows lt h.0), h)

-- the rows from an index on ascend, and so do those from the index before it on
pub one_before : (rows : List ℕ) (i : ℕ) → suc i < length rows → get_or rows i 0 < get_or rows (suc i) 0 → IsAscending (drop (suc i) rows) → IsAscending (drop i rows)
one_before [] i lt less h = absurd (omega (arith, lt))
one_before (r ∷ []) zero lt less h = absurd (omega (arith, lt))
one_before (r ∷ q ∷ rows) zero lt less h = before_ascending r q rows less h
one_before (r ∷ rows) (suc i) lt less h = one_before rows i (omega (arith, lt)) less h

pub one_next : (rows : List ℕ) (i j : ℕ) → j ≡ suc i → j < length rows → get_or rows i 0 < get_or rows j 0 → IsAscending (drop j rows) → IsAscending (drop i rows)
one_next rows i j e lt less h =
    let P : ℕ → Type 0 = λ k. get_or rows i 0 < get_or rows k 0 in
    let Q : ℕ → Type 0 = λ k. IsAscending (drop k rows) in
    one_before rows i (omega (arith, e, lt)) (subst P e less) (subst Q e h)

-- one row ascends, and none
pub few_ascend : (rows : List ℕ) (i : ℕ) → length rows ≤ i + 1 → IsAscending (drop i rows)
few_ascend [] zero le = tt
few_ascend [] (suc i) le = tt
few_ascend (r ∷ []) zero le = (tt, tt)
few_ascend (r ∷ q ∷ rows) zero le = absurd (omega (arith, le))
few_ascend (r ∷ rows) (suc i) le = few_ascend rows i (omega (arith, le))
