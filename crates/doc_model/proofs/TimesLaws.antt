-- How often a number stands in a list.
use Rattle.std.proofs.Common.{ℕ, Bool, true, false, cond, not, ◌||◌, ◌+◌, List, [], ◌∷◌, ◌++◌, map, ◌≡◌, ◌≤◌, refl, sym, ap, subst, ◌∙◌, Some, eqb, ltb, arith}
use Rattle.std.proofs.lemmas.Bool.{false≢true, true≢false, eqb-true, and_parts}
use Rattle.std.proofs.lemmas.Slice.Eq.{bytes_eq-Decides}
use Rattle.std.specs.List.{list_all, AllByRecursion}
use Rattle.std.specs.Str.{bytes_eq}
use Rattle.doc_model.specs.ByIds.{find_id, AreDistinct, without_id}
use Rattle.doc_model.specs.Rows.{has, has_no_duplicates, none_in, IsAscending}
use Rattle.doc_model.specs.Document.{put_by_row, by_row}
use Rattle.doc_model.proofs.Choices.{not_true, both_true, filter_all, each_weaker}
use Rattle.doc_model.proofs.ByIdsLaws.{bytes_apart}
use Rattle.doc_model.proofs.RowsLaws.{number_itself, has_below}

abbrev pub one_if : Bool → ℕ
one_if true = 1
one_if false = 0

abbrev pub times : ℕ → List ℕ → ℕ
times r [] = 0
times r (q ∷ rows) = one_if (eqb q r) + times r rows

pub times-absent : (r : ℕ) (rows : List ℕ) → has rows r ≡ false → times r rows ≡ 0
times-absent r [] h = refl
times-absent r (q ∷ rows) h =
    elim (eqb q r) as (λ b. (b || has rows r) ≡ false → one_if b + times r rows ≡ 0) [
      | true ↦ λ h. absurd (true≢false h)
      | false ↦ λ h. let later : times r rows ≡ 0 = times-absent r rows h in omega arith
    ] h

pub absent-times : (r : ℕ) (rows : List ℕ) → times r rows ≡ 0 → has rows r ≡ false
absent-times r [] h = refl
absent-times r (q ∷ rows) h =
    elim (eqb q r) as (λ b. one_if b + times r rows ≡ 0 → (b || has rows r) ≡ false) [
      | true ↦ λ h. absurd (omega arith)
      | false ↦ λ h. absent-times r rows (omega arith)
    ] h

pub there-times : (r : ℕ) (rows : List ℕ) → has rows r ≡ true → 1 ≤ times r rows
there-times r [] h = absurd (false≢true h)
there-times r (q ∷ rows) h =
    elim (eqb q r) as (λ b. (b || has rows r) ≡ true → 1 ≤ one_if b + times r rows) [
      | true ↦ λ _. omega arith
      | false ↦ λ h. let later : 1 ≤ times r rows = there-times r rows h in omega arith
    ] h

pub times-once : (r : ℕ) (rows : List ℕ) → has_no_duplicates rows ≡ true → times r rows ≤ 1
times-once r [] h = omega arith
times-once r (q ∷ rows) h =
    let both : (not (has rows q) ≡ true) × (has_no_duplicates rows ≡ true) = and_parts (not (has rows q)) (has_no_duplicates rows) h in
    let later : times r rows ≤ 1 = times-once r rows both.1 in
    elim (eqb q r) as (λ b. eqb q r ≡ b → one_if b + times r rows ≤ 1) [
      | true ↦ λ is.
          let none : times r rows ≡ 0 = times-absent r rows (ap (has rows) (sym (eqb-true q r is)) ∙ not_true (has rows q) both.0) in
          omega arith
      | false ↦ λ _. omega arith
    ] refl

pub once-times : (rows : List ℕ) → ((r : ℕ) → times r rows ≤ 1) → has_no_duplicates rows ≡ true
once-times [] h = refl
once-times (q ∷ rows) h =
    let first : one_if (eqb q q) ≡ 1 = ap one_if (number_itself q) in
    let here : one_if (eqb q q) + times q rows ≤ 1 = h q in
    let none : times q rows ≡ 0 = omega arith in
    both_true (not (has rows q)) (has_no_duplicates rows) (ap not (absent-times q rows none))
    (once-times rows (λ r. let some : one_if (eqb q r) + times r rows ≤ 1 = h r in omega arith))

pub times-append : (r : ℕ) (xs ys : List ℕ) → times r (xs ++ ys) ≡ times r xs + times r ys
times-append r [] ys = omega arith
times-append r (x ∷ xs) ys = let later : times r (xs ++ ys) ≡ times r xs + times r ys = times-append r xs ys in omega arith

pub once_ascending : (rows : List ℕ) → IsAscending rows → has_no_duplicates rows ≡ true
once_ascending [] a = refl
once_ascending (r ∷ rows) a = both_true (not (has rows r)) (has_no_duplicates rows) (ap not (has_below r rows a.0)) (once_ascending rows a.1)

-- none of a list stands in another, told by how often
pub none_in-times : (new rows : List ℕ) → ((r : ℕ) → has new r ≡ true → times r rows ≡ 0) → none_in new rows ≡ true
none_in-times [] rows h = refl
none_in-times (q ∷ new) rows h =
    both_true (not (has rows q)) (list_all (λ q. not (has rows q)) new)
    (ap not (absent-times q rows (h q (ap (λ b. b || has new q) (number_itself q)))))
    (none_in-times new rows (λ r e. h r (later (eqb q r) (has new r) e)))
  where
    later : (a b : Bool) → b ≡ true → (a || b) ≡ true
    later true b e = refl
    later false b e = e

pub times-none_in : (new rows : List ℕ) (r : ℕ) → none_in new rows ≡ true → has new r ≡ true → times r rows ≡ 0
times-none_in [] rows r h e = absurd (false≢true e)
times-none_in (q ∷ new) rows r h e =
    let both : (not (has rows q) ≡ true) × (list_all (λ q. not (has rows q)) new ≡ true) = and_parts (not (has rows q)) (list_all (λ q. not (has rows q)) new) h in
    elim (eqb q r) as (λ b. eqb q r ≡ b → (b || has new r) ≡ true → times r rows ≡ 0) [
      | true ↦ λ is _. times-absent r rows (ap (has rows) (sym (eqb-true q r is)) ∙ not_true (has rows q) both.0)
      | false ↦ λ _ e. times-none_in new rows r both.1 e
    ] refl e

module _ {X : Type 0} (row : X → ℕ) (r : ℕ) where
  pub times-put_by_row : (x : X) (xs : List X) → times r (map row (put_by_row row x xs)) ≡ one_if (eqb (row x) r) + times r (map row xs)
  times-put_by_row x [] = refl
  times-put_by_row x (y ∷ ys) =
      elim (ltb (row x) (row y)) as (λ b. times r (map row (cond b (x ∷ y ∷ ys) (y ∷ put_by_row row x ys))) ≡ one_if (eqb (row x) r) + (one_if (eqb (row y) r) + times r (map row ys))) [
        | true ↦ refl
        | false ↦ let later : times r (map row (put_by_row row x ys)) ≡ one_if (eqb (row x) r) + times r (map row ys) = times-put_by_row x ys in omega arith
      ]

  pub times-by_row : (xs : List X) → times r (map row (by_row row xs)) ≡ times r (map row xs)
  times-by_row [] = refl
  times-by_row (x ∷ xs) = times-put_by_row x (by_row row xs) ∙ ap (λ n. one_if (eqb (row x) r) + n) (times-by_row xs)

  -- what is taken out stood there
  pub times-without_id : (id : X → List ℕ) (c : List ℕ) (xs : List X) (x : X) → AreDistinct id xs → find_id id c xs ≡ Some x → times r (map row (without_id id c xs)) + one_if (eqb (row x) r) ≡ times r (map row xs)
  times-without_id id c [] x d f = absurd (cc)
  times-without_id id c (y ∷ ys) x d f =
      elim (bytes_eq (id y) c) as (λ b. bytes_eq (id y) c ≡ b → cond b (Some y) (find_id id c ys) ≡ Some x
      → times r (map row (cond (not b) (y ∷ without_id id c ys) (without_id id c ys))) + one_if (eqb (row x) r) ≡ one_if (eqb (row y) r) + times r (map row ys)) [
        | true ↦ λ is f.
            let same : y ≡ x = cc in
            let apart : AllByRecursion (λ z. not (bytes_eq (id z) c) ≡ true) ys = each_weaker (λ z. bytes_eq c (id z) ≡ false) (λ z. not (bytes_eq (id z) c) ≡ true) (λ z e. ap not (bytes_apart c (id z) e)) ys (subst (λ n. AllByRecursion (λ z. bytes_eq n (id z) ≡ false) ys) ((bytes_eq-Decides (id y) c).0 is) d.0) in
            let rest : times r (map row (without_id id c ys)) ≡ times r (map row ys) = ap (λ zs. times r (map row zs)) (filter_all (λ z. not (bytes_eq (id z) c)) ys apart) in
            let row_same : one_if (eqb (row y) r) ≡ one_if (eqb (row x) r) = ap (λ z. one_if (eqb (row z) r)) same in
            omega arith
        | false ↦ λ _ f.
            let later : times r (map row (without_id id c ys)) + one_if (eqb (row x) r) ≡ times r (map row ys) = times-without_id id c ys x d.1 f in
            omega arith
      ] refl f
