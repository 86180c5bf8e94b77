-- Indexes of rows among ascending ones, and rows put in there.
use Rattle.std.proofs.Common.{ℕ, zero, suc, true, false, cond, ◌||◌, List, [], ◌∷◌, ◌+◌, get_or, insert, length, ◌≡◌, ◌<◌, ◌≤◌, refl, sym, ap, subst, ◌∙◌, Result, Ok, Err, eqb, ltb, arith}
use Rattle.std.proofs.lemmas.Bool.{lt-ltb, le-ltb, ne_eqb, eq-eqb, eqb-true, eqb-false, ltb-true, ltb-false, or_parts}
use Rattle.std.proofs.lemmas.List.Sorted.{searched}
use Rattle.std.specs.List.{AllByRecursion}
use Rattle.std.specs.List.Sorted.{IsBinarySearchResult}
use Rattle.std.specs.Ordering.{nat_cmp}
use Rattle.doc_model.specs.Rows.{has, insert_row, IsAscending}
use Rattle.doc_model.proofs.Choices.{cond_true, cond_false}
use Rattle.doc_model.proofs.RowsLaws.{has-insert_row, IsAscending-insert_row, same_ascending}
use Rattle.doc_model.specs.Indexes.{row_index, row_search}

each_number : (P : ℕ → Type 0) (rows : List ℕ) (i : ℕ) → AllByRecursion P rows → i < length rows → P (get_or rows i 0)
each_number P [] i h l = absurd (omega arith)
each_number P (q ∷ rows) zero h l = h.0
each_number P (q ∷ rows) (suc i) h l = each_number P rows i h.1 (omega arith)

-- ascending rows rise
rises : (rows : List ℕ) (i j : ℕ) → IsAscending rows → i ≤ j → j < length rows → get_or rows i 0 ≤ get_or rows j 0
rises [] i j a le l = absurd (omega arith)
rises (q ∷ rows) zero zero a le l = omega arith
rises (q ∷ rows) zero (suc j) a le l = let lt : q < get_or rows j 0 = each_number (λ r. q < r) rows j a.0 (omega arith) in omega arith
rises (q ∷ rows) (suc i) zero a le l = absurd (omega arith)
rises (q ∷ rows) (suc i) (suc j) a le l = rises rows i j a.1 (omega arith) (omega arith)

-- where a row stands
found_at : (rows : List ℕ) (i x : ℕ) → IsAscending rows → i < length rows → get_or rows i 0 ≡ x → (has rows x ≡ true) × (row_index x rows ≡ i)
found_at [] i x a l e = absurd (omega arith)
found_at (q ∷ rows) zero x a l e = (
  ap (λ b. b || has rows x) (eq-eqb q x e),
  cond_false (ltb q x) (row_index x rows + 1) 0 (le-ltb q x (omega arith)),
)
found_at (q ∷ rows) (suc i) x a l e =
    let lt : q < get_or rows i 0 = each_number (λ r. q < r) rows i a.0 (omega arith) in
    let later : (has rows x ≡ true) × (row_index x rows ≡ i) = found_at rows i x a.1 (omega arith) e in (
      elim (eqb q x) as (λ b. (b || has rows x) ≡ true) [ true ↦ refl | false ↦ later.0 ],
      cond_true (ltb q x) (row_index x rows + 1) 0 (lt-ltb q x (omega arith)) ∙ ap (λ n. n + 1) later.1 ∙ (let next : i + 1 ≡ suc i = omega arith in next),
    )

-- where a row would go
gap_at : (rows : List ℕ) (i x : ℕ) → i ≤ length rows → ((k : ℕ) → k < i → get_or rows k 0 < x) → ((k : ℕ) → i ≤ k → k < length rows → x < get_or rows k 0) → (has rows x ≡ false) × (row_index x rows ≡ i)
gap_at [] i x l below above = (refl, let none : 0 ≡ i = omega arith in none)
gap_at (q ∷ rows) zero x l below above =
    let lt : x < q = above 0 (omega arith) (omega arith) in
    let later : (has rows x ≡ false) × (row_index x rows ≡ 0) = gap_at rows 0 x (omega arith) (λ k none. absurd (omega arith)) (λ k _ in'. above (suc k) (omega arith) (omega arith)) in (
      ap (λ b. b || has rows x) (ne_eqb q x (λ e. absurd (omega arith))) ∙ later.0,
      cond_false (ltb q x) (row_index x rows + 1) 0 (le-ltb q x (omega arith)),
    )
gap_at (q ∷ rows) (suc i) x l below above =
    let lt : q < x = below 0 (omega arith) in
    let later : (has rows x ≡ false) × (row_index x rows ≡ i) = gap_at rows i x (omega arith) (λ k in'. below (suc k) (omega arith)) (λ k le in'. above (suc k) (omega arith) (omega arith)) in (
      ap (λ b. b || has rows x) (ne_eqb q x (λ e. absurd (omega arith))) ∙ later.0,
      cond_true (ltb q x) (row_index x rows + 1) 0 (lt-ltb q x (omega arith)) ∙ ap (λ n. n + 1) later.1 ∙ (let next : i + 1 ≡ suc i = omega arith in next),
    )

-- what a binary search finds
pub searched_row : (rows : List ℕ) (x : ℕ) (r : Result ℕ ℕ) → IsBinarySearchResult (λ y. nat_cmp y x) rows r → IsAscending rows → r ≡ row_search x rows
searched_row rows x (Ok i) s a =
    let h : (i < length rows) × (get_or rows i 0 ≡ x) = searched rows x (Ok i) s (λ i j le l. rises rows i j a le l) in
    let at : (has rows x ≡ true) × (row_index x rows ≡ i) = found_at rows i x a h.0 h.1 in
    sym (cond_true (has rows x) (Ok (row_index x rows)) (Err (row_index x rows)) at.0 ∙ ap (λ n. Ok n) at.1)
searched_row rows x (Err i) s a =
    let h : (i ≤ length rows) × ((k : ℕ) → k < i → get_or rows k 0 < x) × ((k : ℕ) → i ≤ k → k < length rows → x < get_or rows k 0) = searched rows x (Err i) s (λ i j le l. rises rows i j a le l) in
    let at : (has rows x ≡ false) × (row_index x rows ≡ i) = gap_at rows i x h.0 h.1 h.2 in
    sym (cond_false (has rows x) (Ok (row_index x rows)) (Err (row_index x rows)) at.0 ∙ ap (λ n. Err n) at.1)

-- what a search tells
pub search_ok : (q p : ℕ) (rows : List ℕ) → Ok p ≡ row_search q rows → (has rows q ≡ true) × (p ≡ row_index q rows)
search_ok q p rows =
    elim (has rows q) as (λ b. ◌≡◌ {A = Result ℕ ℕ} (Ok p) (cond b (Ok (row_index q rows)) (Err (row_index q rows))) → (b ≡ true) × (p ≡ row_index q rows)) [
      | true ↦ λ e. (refl, cc)
      | false ↦ λ e. absurd (cc)
    ]

pub search_err : (q p : ℕ) (rows : List ℕ) → Err p ≡ row_search q rows → has rows q ≡ false
search_err q p rows =
    elim (has rows q) as (λ b. ◌≡◌ {A = Result ℕ ℕ} (Err p) (cond b (Ok (row_index q rows)) (Err (row_index q rows))) → b ≡ false) [
      | true ↦ λ e. absurd (cc)
      | false ↦ λ e. refl
    ]

pub search_gap : (q i : ℕ) (rows : List ℕ) → Err i ≡ row_search q rows → (has rows q ≡ false) × (i ≡ row_index q rows)
search_gap q i rows =
    elim (has rows q) as (λ b. ◌≡◌ {A = Result ℕ ℕ} (Err i) (cond b (Ok (row_index q rows)) (Err (row_index q rows))) → (b ≡ false) × (i ≡ row_index q rows)) [
      | true ↦ λ e. absurd (cc)
      | false ↦ λ e. (refl, cc)
    ]

pub index_within : (row : ℕ) (rows : List ℕ) → row_index row rows ≤ length rows
index_within row [] = omega arith
index_within row (q ∷ rows) =
    let later : row_index row rows ≤ length rows = index_within row rows in
    elim (ltb q row) as (λ b. cond b (row_index row rows + 1) 0 ≤ length (q ∷ rows)) [ true ↦ omega arith | false ↦ omega arith ]

pub insert_index : (q : ℕ) (rows : List ℕ) → has rows q ≡ false → insert rows (row_index q rows) q ≡ insert_row q rows
insert_index q [] apart = refl
insert_index q (r ∷ rows) apart =
    let parts : (eqb r q ≡ false) × (has rows q ≡ false) = or_parts (eqb r q) (has rows q) apart in
    let ne : r ≡ q → ⊥ = eqb-false r q parts.0 in
    let next : suc (row_index q rows) ≡ row_index q rows + 1 = omega arith in
    elim (ltb r q) as (λ b. ltb r q ≡ b → insert (r ∷ rows) (cond b (row_index q rows + 1) 0) q ≡ insert_row q (r ∷ rows)) [
      | true ↦ λ below.
          let lt : r < q = ltb-true r q below in
          ap (λ n. insert (r ∷ rows) n q) (sym next) ∙ ap (λ qs. r ∷ qs) (insert_index q rows parts.1)
          ∙ sym (cond_false (ltb q r) (q ∷ r ∷ rows) (cond (eqb q r) (r ∷ rows) (r ∷ insert_row q rows)) (le-ltb q r (omega arith))
          ∙ cond_false (eqb q r) (r ∷ rows) (r ∷ insert_row q rows) (ne_eqb q r (λ e. absurd (omega arith))))
      | false ↦ λ above.
          let le : q ≤ r = ltb-false r q above in
          let lt : q < r = omega arith in
          sym (cond_true (ltb q r) (q ∷ r ∷ rows) (cond (eqb q r) (r ∷ rows) (r ∷ insert_row q rows)) (lt-ltb q r lt))
    ] refl

-- a row that is there, put in
pub insert_there : (q : ℕ) (rows : List ℕ) → IsAscending rows → has rows q ≡ true → rows ≡ insert_row q rows
insert_there q rows a here =
    same_ascending rows (insert_row q rows) a (IsAscending-insert_row q rows a) (λ x.
    elim (eqb q x) as (λ b. eqb q x ≡ b → has rows x ≡ (b || has rows x)) [
      | true ↦ λ same. subst (λ n. has rows n ≡ true) (eqb-true q x same) here
      | false ↦ λ _. refl
    ] refl
    ∙ sym (has-insert_row q rows x))
