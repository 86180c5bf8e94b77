-- A walk over things by their places, and the greatest of rows that ascend.
use Rattle.std.proofs.Common.{ℕ, zero, suc, ◌+◌, ◌-◌, ◌<◌, List, [], ◌∷◌, ◌++◌, map, length, length-append, take, slice_get, get_or, ◌≡◌, refl, sym, ap, ◌∙◌, Some, None, arith}
use Rattle.std.proofs.lemmas.Option.{slice_get_within, get_or_from_slice_get}
use Rattle.std.proofs.lemmas.List.{take_more, map-append, length-map}
use Rattle.std.specs.Option.{option_map}
use Rattle.doc_model.specs.Document.{Table, Document, table_id}
use Rattle.doc_model.specs.Readers.{table_at}

module _ {X Y : Type 0} (f : X → Y) (all : List X) (ys zs : List Y) (n : ℕ) (x : X) (y : Y) (counts : n ≡ length ys) (at : slice_get all n ≡ Some x) (is : y ≡ f x) (made : zs ≡ ys ++ y ∷ []) where
  longer : length zs ≡ n + 1
  longer = ap length made ∙ length-append ys (y ∷ []) ∙ ap (λ k. k + 1) (sym counts)

  pub walk_step : ys ≡ map f (take (length ys) all) → zs ≡ map f (take (length zs) all)
  walk_step so =
      made ∙ ap (λ l. l ++ y ∷ []) (so ∙ ap (λ k. map f (take k all)) (sym counts))
      ∙ ap (λ z. map f (take n all) ++ z ∷ []) (is ∙ ap f (sym (get_or_from_slice_get all n x x at)))
      ∙ sym (map-append f (take n all) (get_or all n x ∷ []))
      ∙ ap (map f) (sym (take_more all n x (slice_get_within all n x at)))
      ∙ ap (λ k. map f (take k all)) (sym longer)

  pub walk_fewer : length all - length zs < length all - length ys
  walk_fewer =
      let within : n < length all = slice_get_within all n x at in
      let more : length zs ≡ n + 1 = longer in omega arith

all_taken : {X : Type 0} (all : List X) (n : ℕ) → slice_get all n ≡ None → take n all ≡ all
all_taken [] zero h = refl
all_taken [] (suc n) h = refl
all_taken (x ∷ all) zero h = absurd (cc)
all_taken (x ∷ all) (suc n) h = ap (λ l. x ∷ l) (all_taken all n h)

pub walk_end : {X Y : Type 0} (f : X → Y) (all : List X) (ys : List Y) (n : ℕ) → n ≡ length ys → ys ≡ map f (take (length ys) all) → slice_get all n ≡ None → ys ≡ map f all
walk_end f all ys n counts so past = so ∙ ap (λ k. map f (take k all)) (sym counts) ∙ ap (map f) (all_taken all n past)

-- the table at a place
pub table_read : (s : Document) (i : ℕ) (id : List ℕ) → table_at s i ≡ Some id → (t : Table) × (slice_get s i ≡ Some t) × (id ≡ t.id)
table_read s i id h = elim (slice_get s i) as (λ o. slice_get s i ≡ o → option_map table_id o ≡ Some id → (t : Table) × (slice_get s i ≡ Some t) × (id ≡ t.id)) [
  | None ↦ λ is e. absurd (cc)
  | Some t ↦ λ is e. (t, is, cc)
] refl h

pub table_past : (s : Document) (i : ℕ) → table_at s i ≡ None → slice_get s i ≡ None
table_past s i h = elim (slice_get s i) as (λ o. slice_get s i ≡ o → option_map table_id o ≡ None → slice_get s i ≡ None) [
  | None ↦ λ is e. is
  | Some t ↦ λ is e. absurd (cc)
] refl h

-- the same of what is read off each item
module _ {X Y Z : Type 0} (p : Z → Y) (f : X → Y) (all : List X) (ys zs : List Z) (n : ℕ) (x : X) (y : Z) (counts : n ≡ length ys) (at : slice_get all n ≡ Some x) (is : p y ≡ f x) (made : zs ≡ ys ++ y ∷ []) where
  pub mapped_step : map p ys ≡ map f (take (length ys) all) → map p zs ≡ map f (take (length zs) all)
  mapped_step so =
      walk_step f all (map p ys) (map p zs) n x (p y) (counts ∙ sym (length-map ys p)) at is (ap (map p) made ∙ map-append p ys (y ∷ [])) (so ∙ ap (λ k. map f (take k all)) (sym (length-map ys p)))
      ∙ ap (λ k. map f (take k all)) (length-map zs p)

  pub mapped_fewer : length all - length zs < length all - length ys
  mapped_fewer =
      let within : n < length all = slice_get_within all n x at in
      let more : length zs ≡ n + 1 = ap length made ∙ length-append ys (y ∷ []) ∙ ap (λ k. k + 1) (sym counts) in omega (arith, counts)

pub mapped_end : {X Y Z : Type 0} (p : Z → Y) (f : X → Y) (all : List X) (ys : List Z) (n : ℕ) → n ≡ length ys → map p ys ≡ map f (take (length ys) all) → slice_get all n ≡ None → map p ys ≡ map f all
mapped_end p f all ys n counts so past = so ∙ ap (λ k. map f (take k all)) (sym counts) ∙ ap (map f) (all_taken all n past)
