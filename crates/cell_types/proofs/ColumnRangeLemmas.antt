-- What conversion gives is of a kind of the type.
use Rattle.std.proofs.Common.{◌≡◌, ℕ, ℤ, pos, Bool, true, false, List, [], ◌∷◌, length, nat_le, Option, Some, None, refl, if◌then◌else◌, bytes_eq}
use Rattle.cell_types.specs.declared.column_type.ColType.{ColType}
use Rattle.cell_types.specs.declared.column_type.ColType.TheVariants as ty
use Rattle.cell_types.specs.declared.value.CellValue.{CellValue}
use Rattle.cell_types.specs.declared.value.CellValue.TheVariants as value
use Rattle.cell_types.specs.ColumnRange.{is_in_range, FitIsInRange}
use Rattle.cell_types.specs.Conversion.{default_value, as_text, says_true, says_false, int_or, row_or, row_of_number, list_of_rows, rows_or, single_or, fit_text, fit_int, fit_bool, fit_date, fit_ref, fit_ref_list}
use Rattle.cell_types.specs.Decimal.{decimal_of}
use Rattle.cell_types.specs.Reference.{row_number, rows_in, row_items}
use Rattle.cell_types.specs.TextBound.{text_bound}
use Rattle.cell_types.specs.ValueText.{value_text}

default_in_range : (type : ColType) → is_in_range type (default_value type) ≡ true
default_in_range ty.Any = refl
default_in_range ty.Text = refl
default_in_range ty.Int = refl
default_in_range ty.Bool = refl
default_in_range ty.Date = refl
default_in_range (ty.Ref t) = refl
default_in_range (ty.RefList t) = refl

text_in_range : (type : ColType) (text : List ℕ) → is_in_range type (value.Text text) ≡ true
text_in_range ty.Any text = refl
text_in_range ty.Text text = refl
text_in_range ty.Int text = refl
text_in_range ty.Bool text = refl
text_in_range ty.Date text = refl
text_in_range (ty.Ref t) text = refl
text_in_range (ty.RefList t) text = refl

shown_in_range : (type : ColType) (v : CellValue) → is_in_range type (as_text type v) ≡ true
shown_in_range type v =
    elim (nat_le (length (value_text v)) text_bound) as (λ b. is_in_range type (if b then value.Text (value_text v) else default_value type) ≡ true) [
      | true ↦ text_in_range type (value_text v)
      | false ↦ default_in_range type
    ]

text_range : (v : CellValue) → is_in_range ty.Text (fit_text v) ≡ true
text_range value.Null = refl
text_range (value.Int n) = shown_in_range ty.Text (value.Int n)
text_range (value.Bool b) = shown_in_range ty.Text (value.Bool b)
text_range (value.Text t) = refl
text_range (value.Date n) = shown_in_range ty.Text (value.Date n)
text_range (value.Rec r) = shown_in_range ty.Text (value.Rec r)
text_range (value.RecSet s) = shown_in_range ty.Text (value.RecSet s)
text_range (value.List is) = shown_in_range ty.Text (value.List is)
text_range (value.Err e) = refl
text_range value.Censored = refl

int_or_range : (text : List ℕ) (o : Option ℤ) → is_in_range ty.Int (int_or (value.Text text) o) ≡ true
int_or_range text None = refl
int_or_range text (Some n) = refl

int_range : (v : CellValue) → is_in_range ty.Int (fit_int v) ≡ true
int_range value.Null = refl
int_range (value.Int n) = refl
int_range (value.Bool b) = refl
int_range (value.Text []) = refl
int_range (value.Text (c ∷ cs)) = int_or_range (c ∷ cs) (decimal_of (c ∷ cs))
int_range (value.Date n) = refl
int_range (value.Rec r) = shown_in_range ty.Int (value.Rec r)
int_range (value.RecSet s) = shown_in_range ty.Int (value.RecSet s)
int_range (value.List is) = shown_in_range ty.Int (value.List is)
int_range (value.Err e) = refl
int_range value.Censored = refl

word_range : (text : List ℕ) (t f : Bool) → is_in_range ty.Bool (if t then value.Bool true else (if f then value.Bool false else value.Text text)) ≡ true
word_range text true f = refl
word_range text false true = refl
word_range text false false = refl

bool_range : (v : CellValue) → is_in_range ty.Bool (fit_bool v) ≡ true
bool_range value.Null = refl
bool_range (value.Int n) = refl
bool_range (value.Bool b) = refl
bool_range (value.Text []) = refl
bool_range (value.Text (c ∷ cs)) = word_range (c ∷ cs) (says_true (c ∷ cs)) (says_false (c ∷ cs))
bool_range (value.Date n) = shown_in_range ty.Bool (value.Date n)
bool_range (value.Rec r) = shown_in_range ty.Bool (value.Rec r)
bool_range (value.RecSet s) = shown_in_range ty.Bool (value.RecSet s)
bool_range (value.List is) = shown_in_range ty.Bool (value.List is)
bool_range (value.Err e) = refl
bool_range value.Censored = refl

date_range : (v : CellValue) → is_in_range ty.Date (fit_date v) ≡ true
date_range value.Null = refl
date_range (value.Int n) = refl
date_range (value.Bool b) = shown_in_range ty.Date (value.Bool b)
date_range (value.Text []) = refl
date_range (value.Text (c ∷ cs)) = refl
date_range (value.Date n) = refl
date_range (value.Rec r) = shown_in_range ty.Date (value.Rec r)
date_range (value.RecSet s) = shown_in_range ty.Date (value.RecSet s)
date_range (value.List is) = shown_in_range ty.Date (value.List is)
date_range (value.Err e) = refl
date_range value.Censored = refl

row_or_range : (t : List ℕ) (v : CellValue) (o : Option ℕ) → is_in_range (ty.Ref t) v ≡ true → is_in_range (ty.Ref t) (row_or v o) ≡ true
row_or_range t v None h = h
row_or_range t v (Some r) h = refl

ref_range : (t : List ℕ) (v : CellValue) → is_in_range (ty.Ref t) (fit_ref t v) ≡ true
ref_range t value.Null = refl
ref_range t (value.Int n) = row_or_range t _ (row_number n) (shown_in_range (ty.Ref t) (value.Int n))
ref_range t (value.Bool b) = shown_in_range (ty.Ref t) (value.Bool b)
ref_range t (value.Text []) = refl
ref_range t (value.Text (c ∷ cs)) = row_or_range t (value.Text (c ∷ cs)) (row_of_number (decimal_of (c ∷ cs))) refl
ref_range t (value.Date n) = shown_in_range (ty.Ref t) (value.Date n)
ref_range t (value.Rec r) =
    elim (bytes_eq r.table t) as (λ b. is_in_range (ty.Ref t) (if b then value.Int (pos r.row) else as_text (ty.Ref t) (value.Rec r)) ≡ true) [
      | true ↦ refl
      | false ↦ shown_in_range (ty.Ref t) (value.Rec r)
    ]
ref_range t (value.RecSet s) = shown_in_range (ty.Ref t) (value.RecSet s)
ref_range t (value.List is) = shown_in_range (ty.Ref t) (value.List is)
ref_range t (value.Err e) = refl
ref_range t value.Censored = refl

rows_range : (t rows : List ℕ) → is_in_range (ty.RefList t) (list_of_rows rows) ≡ true
rows_range t [] = refl
rows_range t (r ∷ rs) = refl

rows_or_range : (t : List ℕ) (v : CellValue) (o : Option (List ℕ)) → is_in_range (ty.RefList t) v ≡ true → is_in_range (ty.RefList t) (rows_or v o) ≡ true
rows_or_range t v None h = h
rows_or_range t v (Some rows) h = rows_range t rows

single_or_range : (t : List ℕ) (v : CellValue) (o : Option ℕ) → is_in_range (ty.RefList t) v ≡ true → is_in_range (ty.RefList t) (single_or v o) ≡ true
single_or_range t v None h = h
single_or_range t v (Some r) h =
    elim (nat_le r 0) as (λ b. is_in_range (ty.RefList t) (if b then value.Null else value.List (row_items (r ∷ []))) ≡ true) [
      | true ↦ refl
      | false ↦ refl
    ]

ref_list_range : (t : List ℕ) (v : CellValue) → is_in_range (ty.RefList t) (fit_ref_list t v) ≡ true
ref_list_range t value.Null = refl
ref_list_range t (value.Int n) = single_or_range t _ (row_number n) (shown_in_range (ty.RefList t) (value.Int n))
ref_list_range t (value.Bool b) = shown_in_range (ty.RefList t) (value.Bool b)
ref_list_range t (value.Text []) = refl
ref_list_range t (value.Text (c ∷ cs)) = refl
ref_list_range t (value.Date n) = shown_in_range (ty.RefList t) (value.Date n)
ref_list_range t (value.Rec r) =
    elim (bytes_eq r.table t) as (λ b. is_in_range (ty.RefList t) (if b then single_or value.Null (Some r.row) else as_text (ty.RefList t) (value.Rec r)) ≡ true) [
      | true ↦ single_or_range t value.Null (Some r.row) refl
      | false ↦ shown_in_range (ty.RefList t) (value.Rec r)
    ]
ref_list_range t (value.RecSet s) =
    elim (bytes_eq s.table t) as (λ b. is_in_range (ty.RefList t) (if b then list_of_rows s.rows else as_text (ty.RefList t) (value.RecSet s)) ≡ true) [
      | true ↦ rows_range t s.rows
      | false ↦ shown_in_range (ty.RefList t) (value.RecSet s)
    ]
ref_list_range t (value.List is) = rows_or_range t _ (rows_in t is) (shown_in_range (ty.RefList t) (value.List is))
ref_list_range t (value.Err e) = refl
ref_list_range t value.Censored = refl

pub fit_in_range : FitIsInRange
fit_in_range ty.Any v = refl
fit_in_range ty.Text v = text_range v
fit_in_range ty.Int v = int_range v
fit_in_range ty.Bool v = bool_range v
fit_in_range ty.Date v = date_range v
fit_in_range (ty.Ref t) v = ref_range t v
fit_in_range (ty.RefList t) v = ref_list_range t v
