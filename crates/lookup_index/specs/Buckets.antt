-- Buckets: numbers that equal values share.
use Rattle.std.specs.Prelude.{ℕ, ◌+◌, ◌*◌, ◌%◌, ℤ, pos, negsuc, Bool, true, false, ◌||◌, List, [], ◌∷◌, map, length, ◌≡◌}
use Rattle.std.specs.List.{list_any}
use Rattle.cell_types.specs.declared.value.CellValue.{CellValue}
use Rattle.cell_types.specs.declared.value.CellValue.TheVariants as value
use Rattle.cell_types.specs.Item.{value_of_item}
use Rattle.doc_model.specs.Rows.{has}
use Rattle.value_ops.specs.Equality.{is_equal, is_row_of}

-- the bucket of a number
abbrev pub number_bucket : ℤ → ℕ
number_bucket (pos n) = n
number_bucket (negsuc n) = n

-- the bytes as digits, with what those before leave over by a prime
abbrev pub text_bucket : ℕ → List ℕ → ℕ
text_bucket bucket [] = bucket
text_bucket bucket (byte ∷ bytes) = text_bucket (bucket % 4294967291 * 257 + byte) bytes

abbrev pub truth_bucket : Bool → ℕ
truth_bucket true = 1
truth_bucket false = 0

abbrev pub bucket_of : CellValue → ℕ
bucket_of value.Null = 0
bucket_of (value.Int n) = number_bucket n
bucket_of (value.Bool b) = truth_bucket b
bucket_of (value.Text t) = text_bucket 0 t
bucket_of (value.Date n) = number_bucket n
bucket_of (value.Rec r) = r.row
bucket_of (value.RecSet s) = length s.rows
bucket_of (value.List items) = length items
bucket_of (value.Err e) = 0
bucket_of value.Censored = 0

-- values that are equal, and a record and the number of its row, have one bucket
abbrev pub BucketLaw : Type 0
BucketLaw = (left right : CellValue) → (is_equal left right || is_row_of left right) ≡ true
    → bucket_of left ≡ bucket_of right

-- the buckets of the parts of a list or of a set of records; other values have no parts
abbrev pub part_buckets : CellValue → List ℕ
part_buckets (value.List items) = map (λ i. bucket_of (value_of_item i)) items
part_buckets (value.RecSet s) = s.rows
part_buckets v = []

-- whether the part is the value, or the record of that number
abbrev pub is_found_by : CellValue → CellValue → Bool
is_found_by part v = is_equal v part || is_row_of part v

-- whether a list or a set of records has a part that is found by the value
abbrev pub has_part : CellValue → CellValue → Bool
has_part (value.List items) v = list_any (λ i. is_found_by (value_of_item i) v) items
has_part (value.RecSet s) v =
    list_any (λ r. is_found_by (value.Rec (record { table = s.table; row = r })) v) s.rows
has_part held v = false

-- a value by which a part is found has the bucket of a part
abbrev pub PartBucketLaw : Type 0
PartBucketLaw = (held v : CellValue) → has_part held v ≡ true
    → has (part_buckets held) (bucket_of v) ≡ true
