-- A walk over things by their indexes, and the greatest of rows that ascend.
use Rattle.std.specs.Prelude.{ℤ, ◌==◌}
use Rattle.std.proofs.Common.{ℕ, zero, suc, ◌+◌, ◌-◌, ◌<◌, false, List, [], ◌∷◌, ◌++◌, map, length, length-append, take, slice_get, get_or, ◌≡◌, refl, sym, ap, ◌∙◌, Some, None, arith, ltb}
use Rattle.std.proofs.lemmas.Option.{slice_get_within, get_or_from_slice_get}
use Rattle.std.proofs.lemmas.List.{take_more, map-append}
use Rattle.std.proofs.lemmas.Bool.{le-ltb, lt-ltb}
use Rattle.std.specs.List.{AllByRecursion}
use Rattle.std.specs.Option.{option_map}
use Rattle.doc_model.specs.Counts.{greatest}
use Rattle.doc_model.specs.Document.{Table, Document, table_id}
use Rattle.doc_model.specs.Readers.{table_at}
use Rattle.doc_model.specs.Rows.{IsAscending}
use Rattle.doc_model.proofs.Choices.{cond_true, cond_false}
use Rattle.doc_model.specs.ViewEdits.{if_any}
use Rattle.user_actions.specs.Steps.{numbers_after, row_ids}

module _ {X Y : Type 0} (f : X → Y) (all : List X) (ys zs : List Y) (n : ℕ) (x : X) (y : Y) (counts : n ≡ length ys) (at : slice_get all n ≡ Some x) (is : y ≡ f x) (made : zs ≡ ys ++ y ∷ []) where
  longer : length zs ≡ n + 1
  longer = ap length made ∙ length-append ys (y ∷ []) ∙ ap (λ k. k + 1) (sym counts)

  pub walk_step : ys ≡ map f (take (length ys) all) → zs ≡ map f (take (length zs) all)
  walk_step so =
      made ∙ ap (λ l. l ++ y ∷ []) (so ∙ ap (λ k. map f (take k all)) (sym counts))
      ∙ ap (λ z. map f (take n all) ++ z ∷ []) (is ∙ ap f (sym (get_or_from_slice_get all n x x at)))
      ∙ sym (map-append f (take n all) (get_or all n x ∷ []))
      ∙ ap (map f) (sym (take_more all n x (slice_get_within all n x at)))
      ∙ ap (λ k. map f (take k all)) (sym longer)

  pub walk_fewer : length all - length zs < length all - length ys
  walk_fewer =
      let within : n < length all = slice_get_within all n x at in
      let more : length zs ≡ n + 1 = longer in omega arith

all_taken : {X : Type 0} (all : List X) (n : ℕ) → slice_get all n ≡ None → take n all ≡ all
all_taken [] zero h = refl
all_taken [] (suc n) h = refl
all_taken (x ∷ all) zero h = absurd (cc)
all_taken (x ∷ all) (suc n) h = ap (λ l. x ∷ l) (all_taken all n h)

pub walk_end : {X Y : Type 0} (f : X → Y) (all : List X) (ys : List Y) (n : ℕ) → n ≡ length ys → ys ≡ map f (take (length ys) all) → slice_get all n ≡ None → ys ≡ map f all
walk_end f all ys n counts so past = so ∙ ap (λ k. map f (take k all)) (sym counts) ∙ ap (map f) (all_taken all n past)

-- the table at an index
pub table_read : (s : Document) (i : ℕ) (id : List ℕ) → table_at s i ≡ Some id → (t : Table) × (slice_get s i ≡ Some t) × (id ≡ t.id)
table_read s i id h = elim (slice_get s i) as (λ o. slice_get s i ≡ o → option_map table_id o ≡ Some id → (t : Table) × (slice_get s i ≡ Some t) × (id ≡ t.id)) [
  | None ↦ λ is e. absurd (cc)
  | Some t ↦ λ is e. (t, is, cc)
] refl h

pub table_past : (s : Document) (i : ℕ) → table_at s i ≡ None → slice_get s i ≡ None
table_past s i h = elim (slice_get s i) as (λ o. slice_get s i ≡ o → option_map table_id o ≡ None → slice_get s i ≡ None) [
  | None ↦ λ is e. is
  | Some t ↦ λ is e. absurd (cc)
] refl h

ltb_zero : (n : ℕ) → ltb n 0 ≡ false
ltb_zero n = le-ltb n 0 (omega arith)

above_first : (r : ℕ) (rows : List ℕ) (i : ℕ) → AllByRecursion (λ q. r < q) rows → i < length rows → r < get_or rows i 0
above_first r [] i h lt = absurd (omega arith)
above_first r (q ∷ rows) zero h lt = h.0
above_first r (q ∷ rows) (suc i) h lt = above_first r rows i h.1 (omega arith)

-- the last of rows that ascend is the greatest
pub greatest_last : (rows : List ℕ) → IsAscending rows → (i : ℕ) → i + 1 ≡ length rows → greatest rows ≡ get_or rows i 0
greatest_last [] h i e = absurd (omega arith)
greatest_last (r ∷ []) h zero e = cond_false (ltb r 0) 0 r (ltb_zero r)
greatest_last (r ∷ []) h (suc i) e = absurd (omega arith)
greatest_last (r ∷ q ∷ rows) h zero e = absurd (omega arith)
greatest_last (r ∷ q ∷ rows) h (suc i) e =
    let rest : greatest (q ∷ rows) ≡ get_or (q ∷ rows) i 0 = greatest_last (q ∷ rows) h.1 i (omega arith) in
    let above : r < get_or (q ∷ rows) i 0 = above_first r (q ∷ rows) i h.0 (omega arith) in
    cond_true (ltb r (greatest (q ∷ rows))) (greatest (q ∷ rows)) r (lt-ltb r (greatest (q ∷ rows)) (omega (arith, rest, above))) ∙ rest

-- the next of so many numbers after one
pub numbers_next : (last index count : ℕ) → index < count
    → numbers_after (last + index) (count - index) ≡ (last + index + 1) ∷ numbers_after (last + (index + 1)) (count - (index + 1))
numbers_next last index count lt =
    let left : count - index ≡ suc (count - (index + 1)) = omega (arith, lt) in
    let next : last + index + 1 ≡ last + (index + 1) = omega arith in
    ap (numbers_after (last + index)) left ∙ ap (λ n. (last + index + 1) ∷ numbers_after n (count - (index + 1))) next

-- where a row is given, something is done
pub any_row : {X : Type 0} (rows : List ℤ) (x : X) → (length rows == 0) ≡ false → if_any (row_ids rows) x ≡ x ∷ []
any_row [] x h = cc
any_row (n ∷ rows) x h = refl
