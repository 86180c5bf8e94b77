-- Where a row stands among ascending rows, and the cells beside it.
use Rattle.std.proofs.Common.{ℕ, zero, suc, Bool, true, false, List, [], ◌∷◌, ◌≡◌, ◌<◌, ◌≤◌, ◌+◌, length, get_or, refl, sym, ap, subst, ◌∙◌, arith, eqb}
use Rattle.std.proofs.lemmas.Bool.{false≢true, true≢false, ne_eqb, eq-eqb}
use Rattle.std.specs.List.{AllByRecursion}
use Rattle.cell_types.specs.declared.value.CellValue.{CellValue}
use Rattle.doc_model.specs.Rows.{has, IsAscending}
use Rattle.doc_model.specs.Grid.{beside}
use Rattle.doc_model.proofs.Choices.{cond_true, cond_false, each_weaker}

each_below : (q : ℕ) (rows : List ℕ) (k : ℕ) → AllByRecursion (λ r. q < r) rows → k < length rows → q < get_or rows k 0
each_below q [] k h lt = absurd (omega arith)
each_below q (r ∷ rows) zero h lt = h.0
each_below q (r ∷ rows) (suc k) h lt = each_below q rows k h.1 (omega arith)

pub rising : (rows : List ℕ) → IsAscending rows → (i j : ℕ) → i ≤ j → j < length rows → get_or rows i 0 ≤ get_or rows j 0
rising [] h i j le lt = absurd (omega arith)
rising (r ∷ rows) h zero zero le lt = omega arith
rising (r ∷ rows) h zero (suc j) le lt = let b : r < get_or rows j 0 = each_below r rows j h.0 (omega arith) in omega (arith, b)
rising (r ∷ rows) h (suc i) zero le lt = absurd (omega arith)
rising (r ∷ rows) h (suc i) (suc j) le lt = rising rows h.1 i j (omega arith) (omega arith)

none_there : (rows : List ℕ) (row : ℕ) → ((k : ℕ) → k < length rows → get_or rows k 0 ≡ row → ⊥) → has rows row ≡ false
none_there [] row h = refl
none_there (r ∷ rows) row h =
    ap (λ b. Rattle.std.specs.Prelude.◌||◌ b (has rows row)) (ne_eqb r row (λ e. h zero (omega arith) e))
    ∙ none_there rows row (λ k lt e. h (suc k) (omega arith) e)

-- a row is not there where all before an index are below it, and all from there on above it
pub absent : (rows : List ℕ) (row i : ℕ) → ((k : ℕ) → k < i → get_or rows k 0 < row) → ((k : ℕ) → i ≤ k → k < length rows → row < get_or rows k 0) → has rows row ≡ false
absent rows row i below above = none_there rows row (λ k lt e.
    Rattle.std.proofs.Common.⊎_elim (λ l. let b : get_or rows k 0 < row = below k l in absurd (omega (arith, b, e))) (λ l. let b : row < get_or rows k 0 = above k l lt in absurd (omega (arith, b, e))) (Rattle.std.proofs.lemmas.Bool.cases_lt k i))

beside_at : {V : Type 0} (rows : List ℕ) (vs : List V) (d : V) (row p : ℕ) → IsAscending rows → p < length rows → get_or rows p 0 ≡ row → beside (λ q. eqb q row) rows vs d ≡ get_or vs p d
beside_at [] vs d row p h lt e = absurd (omega arith)
beside_at (r ∷ rows) [] d row p h lt e = refl
beside_at (r ∷ rows) (v ∷ vs) d row zero h lt e = cond_true (eqb r row) v (beside (λ q. eqb q row) rows vs d) (eq-eqb r row e)
beside_at (r ∷ rows) (v ∷ vs) d row (suc p) h lt e =
    let b : r < get_or rows p 0 = each_below r rows p h.0 (omega arith) in
    cond_false (eqb r row) v (beside (λ q. eqb q row) rows vs d) (ne_eqb r row (λ same. absurd (omega (arith, b, e, same))))
    ∙ beside_at rows vs d row p h.1 (omega arith) e

pub beside_absent : {V : Type 0} (rows : List ℕ) (vs : List V) (d : V) (row : ℕ) → has rows row ≡ false → beside (λ q. eqb q row) rows vs d ≡ d
beside_absent [] vs d row h = refl
beside_absent (r ∷ rows) [] d row h = refl
beside_absent (r ∷ rows) (v ∷ vs) d row h =
    elim (eqb r row) as (λ b. Rattle.std.specs.Prelude.◌||◌ b (has rows row) ≡ false → Rattle.std.specs.Prelude.cond b v (beside (λ q. eqb q row) rows vs d) ≡ d) [
      | true ↦ λ h. absurd (true≢false h)
      | false ↦ λ h. beside_absent rows vs d row h
    ] h

-- the cells that stand at the index of a row
pub found_cells : (rows seen : List ℕ) (cells shown : List (List CellValue)) (row p : ℕ) (cell out : List CellValue) → IsAscending rows → seen ≡ rows → shown ≡ cells
    → (p < length seen) × (get_or seen p 0 ≡ row) → length cells ≡ length rows → cell ≡ get_or shown p cell → out ≡ cell → out ≡ beside (λ q. eqb q row) rows cells []
found_cells rows seen cells shown row p cell out h es ec at height is e =
    let lt : p < length rows = omega (arith, at.0, ap length es) in
    e ∙ is ∙ ap (λ l. get_or l p cell) ec
    ∙ Rattle.std.proofs.lemmas.List.get_or_default cells p cell [] (omega (arith, lt, height))
    ∙ sym (beside_at rows cells [] row p h lt (ap (λ l. get_or l p 0) (sym es) ∙ at.1))

pub below : (rows : List ℕ) → IsAscending rows → (i j : ℕ) → i < j → j < length rows → get_or rows i 0 < get_or rows j 0
below [] h i j le lt = absurd (omega arith)
below (r ∷ rows) h i zero le lt = absurd (omega arith)
below (r ∷ rows) h zero (suc j) le lt = each_below r rows j h.0 (omega arith)
below (r ∷ rows) h (suc i) (suc j) le lt = below rows h.1 i j (omega arith) (omega arith)

-- rows ascend where each is below the next
pub ascending_from : (rows : List ℕ) → ((k : ℕ) → k + 1 < length rows → get_or rows k 0 < get_or rows (k + 1) 0) → IsAscending rows
ascending_from [] h = tt
ascending_from (r ∷ []) h = (tt, tt)
ascending_from (r ∷ q ∷ rows) h =
    let first : r < q = h 0 (omega arith) in
    let rest : IsAscending (q ∷ rows) = ascending_from (q ∷ rows) (λ k lt.
    let e : suc k + 1 ≡ suc (k + 1) = omega arith in
    subst (λ n. get_or (q ∷ rows) k 0 < get_or (r ∷ q ∷ rows) n 0) e (h (suc k) (omega (arith, lt)))) in
    ((first, each_weaker (λ p. q < p) (λ p. r < p) (λ p l. omega (arith, l, first)) rows rest.0), rest)
