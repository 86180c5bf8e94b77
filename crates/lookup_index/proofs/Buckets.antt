-- Equal values have one bucket.
use Rattle.std.proofs.Common.{ℤ, pos, Bool, true, false, ◌||◌, ◌==◌, List, [], ◌∷◌, ◌≡◌, refl, sym, ap, ◌∙◌, Option, Some, None, length, suc}
use Rattle.std.proofs.lemmas.Bool.{false≢true, and_parts, eqb-true}
use Rattle.std.proofs.lemmas.Bool.Decides.{Decides-int_eq}
use Rattle.std.proofs.lemmas.Slice.Eq.{bytes_eq-Decides}
use Rattle.std.specs.Cmp.Lexicographic.{pointwise}
use Rattle.std.specs.Ordering.{int_eq}
use Rattle.std.specs.Str.{bytes_eq}
use Rattle.cell_types.specs.declared.value.CellItem.{CellItem}
use Rattle.cell_types.specs.declared.value.CellValue.{CellValue}
use Rattle.cell_types.specs.declared.value.CellValue.TheVariants as value
use Rattle.value_ops.specs.Equality.{is_equal_item, are_equal_numbers, are_equal_rows, are_equal_row_sets}
use Rattle.value_ops.specs.Numbers.{number_of}
use Rattle.lookup_index.specs.Buckets.{bucket_of, number_bucket, text_bucket, BucketLaw}

alone : (b : Bool) → (b || false) ≡ true → b ≡ true
alone true h = refl
alone false h = h

-- the bucket of a value that is a number is that of the number
numbered : (v : CellValue) (n : ℤ) → number_of v ≡ Some n → bucket_of v ≡ number_bucket n
numbered (value.Int m) n h = let same : m ≡ n = cc in ap number_bucket same
numbered (value.Bool true) n h = let same : pos 1 ≡ n = cc in ap number_bucket same
numbered (value.Bool false) n h = let same : pos 0 ≡ n = cc in ap number_bucket same
numbered value.Null n h = absurd (cc)
numbered (value.Text t) n h = absurd (cc)
numbered (value.Date m) n h = absurd (cc)
numbered (value.Rec r) n h = absurd (cc)
numbered (value.RecSet s) n h = absurd (cc)
numbered (value.List items) n h = absurd (cc)
numbered (value.Err e) n h = absurd (cc)
numbered value.Censored n h = absurd (cc)

-- values that are one number
same_number : (left right : CellValue) → are_equal_numbers (number_of left) (number_of right) ≡ true → bucket_of left ≡ bucket_of right
same_number left right = by (number_of left) (number_of right) refl refl
  where
    by : (o p : Option ℤ) → number_of left ≡ o → number_of right ≡ p → are_equal_numbers o p ≡ true → bucket_of left ≡ bucket_of right
    by None p a b h = absurd (false≢true h)
    by (Some m) None a b h = absurd (false≢true h)
    by (Some m) (Some n) a b h = numbered left m a ∙ ap number_bucket ((Decides-int_eq m n).0 h) ∙ sym (numbered right n b)

-- lists that are equal item by item are of one length
same_length : (is js : List CellItem) → pointwise is_equal_item is js ≡ true → length is ≡ length js
same_length [] [] h = refl
same_length [] (j ∷ js) h = absurd (false≢true h)
same_length (i ∷ is) [] h = absurd (false≢true h)
same_length (i ∷ is) (j ∷ js) h = ap (λ n. suc n) (same_length is js (and_parts (is_equal_item i j) (pointwise is_equal_item is js) h).1)

pub same_bucket : BucketLaw
same_bucket value.Null value.Null h = refl
same_bucket value.Null (value.Int m) h = absurd (false≢true h)
same_bucket value.Null (value.Bool c) h = absurd (false≢true h)
same_bucket value.Null (value.Text u) h = absurd (false≢true h)
same_bucket value.Null (value.Date m) h = absurd (false≢true h)
same_bucket value.Null (value.Rec q) h = absurd (false≢true h)
same_bucket value.Null (value.RecSet z) h = absurd (false≢true h)
same_bucket value.Null (value.List js) h = absurd (false≢true h)
same_bucket value.Null (value.Err d) h = absurd (false≢true h)
same_bucket value.Null value.Censored h = absurd (false≢true h)
same_bucket (value.Int n) right h = same_number (value.Int n) right (alone (are_equal_numbers (number_of (value.Int n)) (number_of right)) h)
same_bucket (value.Bool b) right h = same_number (value.Bool b) right (alone (are_equal_numbers (number_of (value.Bool b)) (number_of right)) h)
same_bucket (value.Text t) value.Null h = absurd (false≢true h)
same_bucket (value.Text t) (value.Int m) h = absurd (false≢true h)
same_bucket (value.Text t) (value.Bool c) h = absurd (false≢true h)
same_bucket (value.Text t) (value.Text u) h = ap (text_bucket 0) ((bytes_eq-Decides t u).0 (alone (bytes_eq t u) h))
same_bucket (value.Text t) (value.Date m) h = absurd (false≢true h)
same_bucket (value.Text t) (value.Rec q) h = absurd (false≢true h)
same_bucket (value.Text t) (value.RecSet z) h = absurd (false≢true h)
same_bucket (value.Text t) (value.List js) h = absurd (false≢true h)
same_bucket (value.Text t) (value.Err d) h = absurd (false≢true h)
same_bucket (value.Text t) value.Censored h = absurd (false≢true h)
same_bucket (value.Date n) value.Null h = absurd (false≢true h)
same_bucket (value.Date n) (value.Int m) h = absurd (false≢true h)
same_bucket (value.Date n) (value.Bool c) h = absurd (false≢true h)
same_bucket (value.Date n) (value.Text u) h = absurd (false≢true h)
same_bucket (value.Date n) (value.Date m) h = ap number_bucket ((Decides-int_eq n m).0 (alone (int_eq n m) h))
same_bucket (value.Date n) (value.Rec q) h = absurd (false≢true h)
same_bucket (value.Date n) (value.RecSet z) h = absurd (false≢true h)
same_bucket (value.Date n) (value.List js) h = absurd (false≢true h)
same_bucket (value.Date n) (value.Err d) h = absurd (false≢true h)
same_bucket (value.Date n) value.Censored h = absurd (false≢true h)
same_bucket (value.Rec r) value.Null h = absurd (false≢true h)
same_bucket (value.Rec r) (value.Int m) h = sym (ap number_bucket ((Decides-int_eq m (pos r.row)).0 h))
same_bucket (value.Rec r) (value.Bool c) h = absurd (false≢true h)
same_bucket (value.Rec r) (value.Text u) h = absurd (false≢true h)
same_bucket (value.Rec r) (value.Date m) h = absurd (false≢true h)
same_bucket (value.Rec r) (value.Rec q) h = eqb-true r.row q.row (and_parts (r.row == q.row) (bytes_eq r.table q.table) (alone (are_equal_rows r q) h)).0
same_bucket (value.Rec r) (value.RecSet z) h = absurd (false≢true h)
same_bucket (value.Rec r) (value.List js) h = absurd (false≢true h)
same_bucket (value.Rec r) (value.Err d) h = absurd (false≢true h)
same_bucket (value.Rec r) value.Censored h = absurd (false≢true h)
same_bucket (value.RecSet s) value.Null h = absurd (false≢true h)
same_bucket (value.RecSet s) (value.Int m) h = absurd (false≢true h)
same_bucket (value.RecSet s) (value.Bool c) h = absurd (false≢true h)
same_bucket (value.RecSet s) (value.Text u) h = absurd (false≢true h)
same_bucket (value.RecSet s) (value.Date m) h = absurd (false≢true h)
same_bucket (value.RecSet s) (value.Rec q) h = absurd (false≢true h)
same_bucket (value.RecSet s) (value.RecSet z) h = ap length ((bytes_eq-Decides s.rows z.rows).0 (and_parts (bytes_eq s.table z.table) (bytes_eq s.rows z.rows) (alone (are_equal_row_sets s z) h)).1)
same_bucket (value.RecSet s) (value.List js) h = absurd (false≢true h)
same_bucket (value.RecSet s) (value.Err d) h = absurd (false≢true h)
same_bucket (value.RecSet s) value.Censored h = absurd (false≢true h)
same_bucket (value.List is) value.Null h = absurd (false≢true h)
same_bucket (value.List is) (value.Int m) h = absurd (false≢true h)
same_bucket (value.List is) (value.Bool c) h = absurd (false≢true h)
same_bucket (value.List is) (value.Text u) h = absurd (false≢true h)
same_bucket (value.List is) (value.Date m) h = absurd (false≢true h)
same_bucket (value.List is) (value.Rec q) h = absurd (false≢true h)
same_bucket (value.List is) (value.RecSet z) h = absurd (false≢true h)
same_bucket (value.List is) (value.List js) h = same_length is js (alone (pointwise is_equal_item is js) h)
same_bucket (value.List is) (value.Err d) h = absurd (false≢true h)
same_bucket (value.List is) value.Censored h = absurd (false≢true h)
same_bucket (value.Err e) right h = same_number (value.Err e) right (alone (are_equal_numbers (number_of (value.Err e)) (number_of right)) h)
same_bucket value.Censored right h = same_number value.Censored right (alone (are_equal_numbers (number_of value.Censored) (number_of right)) h)
