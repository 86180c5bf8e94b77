-- Parts that are found by a value have its bucket.
use Rattle.std.proofs.Common.{ℕ, Bool, true, false, ◌||◌, List, [], ◌∷◌, map, nat_eq, ◌≡◌, refl, sym, ap, ◌∙◌, subst}
use Rattle.std.proofs.lemmas.Bool.{false≢true}
use Rattle.std.specs.List.{list_any}
use Rattle.cell_types.specs.declared.value.CellValue.{CellValue}
use Rattle.cell_types.specs.declared.value.CellValue.TheVariants as value
use Rattle.cell_types.specs.Item.{value_of_item}
use Rattle.doc_model.specs.Rows.{has}
use Rattle.doc_model.proofs.RowsLaws.{number_itself}
use Rattle.value_ops.specs.Equality.{is_equal, is_row_of}
use Rattle.lookup_index.specs.Buckets.{bucket_of, is_found_by, PartBucketLaw}
use Rattle.lookup_index.proofs.Buckets.{same_bucket}

or_true : (a : Bool) → (a || true) ≡ true
or_true true = refl
or_true false = refl

-- a part has the bucket of a value by which it is found
found_bucket : (part v : CellValue) → is_found_by part v ≡ true → bucket_of part ≡ bucket_of v
found_bucket part v = by (is_equal v part) (is_row_of part v) refl refl
  where
    by : (a b : Bool) → is_equal v part ≡ a → is_row_of part v ≡ b → (a || b) ≡ true → bucket_of part ≡ bucket_of v
    by true b same row h = sym (same_bucket v part (ap (λ x. x || is_row_of v part) same))
    by false true same row h = same_bucket part v (ap (λ x. is_equal part v || x) row ∙ or_true (is_equal part v))
    by false false same row h = absurd (false≢true h)

-- where one of some things is found by a value, one of their buckets is its bucket
any_bucket : {A : Type 0} (f : A → CellValue) (v : CellValue) (xs : List A) → list_any (λ x. is_found_by (f x) v) xs ≡ true → has (map (λ x. bucket_of (f x)) xs) (bucket_of v) ≡ true
any_bucket f v [] h = absurd (false≢true h)
any_bucket f v (x ∷ xs) h = by (any_bucket f v xs) (is_found_by (f x) v) refl h
  where
    by : (list_any (λ y. is_found_by (f y) v) xs ≡ true → has (map (λ y. bucket_of (f y)) xs) (bucket_of v) ≡ true) → (a : Bool) → is_found_by (f x) v ≡ a → (a || list_any (λ y. is_found_by (f y) v) xs) ≡ true → (nat_eq (bucket_of (f x)) (bucket_of v) || has (map (λ y. bucket_of (f y)) xs) (bucket_of v)) ≡ true
    by later true found h = ap (λ b. b || has (map (λ y. bucket_of (f y)) xs) (bucket_of v)) (subst (λ n. nat_eq (bucket_of (f x)) n ≡ true) (found_bucket (f x) v found) (number_itself (bucket_of (f x))))
    by later false found h = ap (λ b. nat_eq (bucket_of (f x)) (bucket_of v) || b) (later h) ∙ or_true (nat_eq (bucket_of (f x)) (bucket_of v))

rows_themselves : (rows : List ℕ) → map (λ (r : ℕ). r) rows ≡ rows
rows_themselves [] = refl
rows_themselves (r ∷ rows) = ap (λ rs. r ∷ rs) (rows_themselves rows)

pub same_part : PartBucketLaw
same_part value.Null v h = absurd (false≢true h)
same_part (value.Int n) v h = absurd (false≢true h)
same_part (value.Bool b) v h = absurd (false≢true h)
same_part (value.Text t) v h = absurd (false≢true h)
same_part (value.Date n) v h = absurd (false≢true h)
same_part (value.Rec r) v h = absurd (false≢true h)
same_part (value.RecSet s) v h = subst (λ rows. has rows (bucket_of v) ≡ true) (rows_themselves s.rows) (any_bucket (λ r. value.Rec (record { table = s.table; row = r })) v s.rows h)
same_part (value.List items) v h = any_bucket (λ i. value_of_item i) v items h
same_part (value.Err e) v h = absurd (false≢true h)
same_part value.Censored v h = absurd (false≢true h)
