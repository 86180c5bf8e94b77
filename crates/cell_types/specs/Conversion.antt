-- Conversion: what a value becomes in a column of a type. A table, a function for each type and a
-- line for each kind of value.
use Rattle.std.specs.Prelude.{ℕ, ℤ, pos, Bool, true, false, not, ◌||◌, List, [], ◌∷◌, length, nat_le, Option, Some, None, if◌then◌else◌, bytes_eq, codes}
use Rattle.std.specs.Ordering.{int_eq}
use Rattle.std.specs.Str.{str_eq_ignore_ascii_case}
use Rattle.cell_types.specs.declared.column_type.ColType.{ColType}
use Rattle.cell_types.specs.declared.column_type.ColType.TheVariants as ty
use Rattle.cell_types.specs.declared.value.CellValue.{CellValue}
use Rattle.cell_types.specs.declared.value.CellValue.TheVariants as value
use Rattle.cell_types.specs.Decimal.{decimal_of}
use Rattle.cell_types.specs.Reference.{row_number, rows_in, row_items}
use Rattle.cell_types.specs.TextBound.{text_bound}
use Rattle.cell_types.specs.ValueText.{value_text}

-- what a new cell of the type holds
abbrev pub default_value : ColType → CellValue
default_value ty.Any = value.Null
default_value ty.Text = value.Text []
default_value ty.Int = value.Int (pos 0)
default_value ty.Bool = value.Bool false
default_value ty.Date = value.Null
default_value (ty.Ref t) = value.Int (pos 0)
default_value (ty.RefList t) = value.Null

-- the value as a text, or the default where that text is too long
abbrev pub as_text : ColType → CellValue → CellValue
as_text type v =
    if nat_le (length (value_text v)) text_bound then value.Text (value_text v)
    else default_value type

-- in any letter case
abbrev pub is_word : List ℕ → List ℕ → Bool
is_word word text = str_eq_ignore_ascii_case text word

abbrev pub says_true : List ℕ → Bool
says_true text =
    is_word (codes "true") text || (is_word (codes "yes") text || is_word (codes "1") text)

abbrev pub says_false : List ℕ → Bool
says_false text =
    is_word (codes "false") text || (is_word (codes "no") text || is_word (codes "0") text)

-- a number, or what stands where there is none
abbrev pub int_or : CellValue → Option ℤ → CellValue
int_or other None = other
int_or other (Some n) = value.Int n

-- a row number, or what stands where there is none
abbrev pub row_or : CellValue → Option ℕ → CellValue
row_or other None = other
row_or other (Some r) = value.Int (pos r)

-- the number, where it is there and a row number
abbrev pub row_of_number : Option ℤ → Option ℕ
row_of_number None = None
row_of_number (Some n) = row_number n

-- no rows are null
abbrev pub list_of_rows : List ℕ → CellValue
list_of_rows [] = value.Null
list_of_rows (r ∷ rs) = value.List (row_items (r ∷ rs))

-- rows, or what stands where there are none
abbrev pub rows_or : CellValue → Option (List ℕ) → CellValue
rows_or other None = other
rows_or other (Some rows) = list_of_rows rows

-- one row, 0 being none, or what stands where there is none
abbrev pub single_or : CellValue → Option ℕ → CellValue
single_or other None = other
single_or other (Some r) = if nat_le r 0 then value.Null else value.List (row_items (r ∷ []))

-- a column of type Any
abbrev pub fit_any : CellValue → CellValue
fit_any v = v

-- a column of type Text
abbrev pub fit_text : CellValue → CellValue
fit_text value.Null = value.Null
fit_text (value.Int n) = as_text ty.Text (value.Int n)
fit_text (value.Bool b) = as_text ty.Text (value.Bool b)
fit_text (value.Text t) = value.Text t
fit_text (value.Date n) = as_text ty.Text (value.Date n)
fit_text (value.Rec r) = as_text ty.Text (value.Rec r)
fit_text (value.RecSet s) = as_text ty.Text (value.RecSet s)
fit_text (value.List items) = as_text ty.Text (value.List items)
fit_text (value.Err e) = value.Err e
fit_text value.Censored = value.Censored

-- a column of type Int
abbrev pub fit_int : CellValue → CellValue
fit_int value.Null = value.Null
fit_int (value.Int n) = value.Int n
fit_int (value.Bool b) = value.Int (if b then pos 1 else pos 0)
fit_int (value.Text []) = value.Null
fit_int (value.Text (c ∷ cs)) = int_or (value.Text (c ∷ cs)) (decimal_of (c ∷ cs))
fit_int (value.Date n) = value.Int n
fit_int (value.Rec r) = as_text ty.Int (value.Rec r)
fit_int (value.RecSet s) = as_text ty.Int (value.RecSet s)
fit_int (value.List items) = as_text ty.Int (value.List items)
fit_int (value.Err e) = value.Err e
fit_int value.Censored = value.Censored

-- a column of type Bool
abbrev pub fit_bool : CellValue → CellValue
fit_bool value.Null = value.Bool false
fit_bool (value.Int n) = value.Bool (not (int_eq n (pos 0)))
fit_bool (value.Bool b) = value.Bool b
fit_bool (value.Text []) = value.Bool false
fit_bool (value.Text (c ∷ cs)) =
    if says_true (c ∷ cs) then value.Bool true
    else if says_false (c ∷ cs) then value.Bool false
    else value.Text (c ∷ cs)
fit_bool (value.Date n) = as_text ty.Bool (value.Date n)
fit_bool (value.Rec r) = as_text ty.Bool (value.Rec r)
fit_bool (value.RecSet s) = as_text ty.Bool (value.RecSet s)
fit_bool (value.List items) = as_text ty.Bool (value.List items)
fit_bool (value.Err e) = value.Err e
fit_bool value.Censored = value.Censored

-- a column of type Date
abbrev pub fit_date : CellValue → CellValue
fit_date value.Null = value.Null
fit_date (value.Int n) = value.Date n
fit_date (value.Bool b) = as_text ty.Date (value.Bool b)
fit_date (value.Text []) = value.Null
fit_date (value.Text (c ∷ cs)) = value.Text (c ∷ cs)
fit_date (value.Date n) = value.Date n
fit_date (value.Rec r) = as_text ty.Date (value.Rec r)
fit_date (value.RecSet s) = as_text ty.Date (value.RecSet s)
fit_date (value.List items) = as_text ty.Date (value.List items)
fit_date (value.Err e) = value.Err e
fit_date value.Censored = value.Censored

-- a column of references to a table
abbrev pub fit_ref : List ℕ → CellValue → CellValue
fit_ref t value.Null = value.Int (pos 0)
fit_ref t (value.Int n) = row_or (as_text (ty.Ref t) (value.Int n)) (row_number n)
fit_ref t (value.Bool b) = as_text (ty.Ref t) (value.Bool b)
fit_ref t (value.Text []) = value.Int (pos 0)
fit_ref t (value.Text (c ∷ cs)) = row_or (value.Text (c ∷ cs)) (row_of_number (decimal_of (c ∷ cs)))
fit_ref t (value.Date n) = as_text (ty.Ref t) (value.Date n)
fit_ref t (value.Rec r) =
    if bytes_eq r.table t then value.Int (pos r.row) else as_text (ty.Ref t) (value.Rec r)
fit_ref t (value.RecSet s) = as_text (ty.Ref t) (value.RecSet s)
fit_ref t (value.List items) = as_text (ty.Ref t) (value.List items)
fit_ref t (value.Err e) = value.Err e
fit_ref t value.Censored = value.Censored

-- a column of lists of references to a table
abbrev pub fit_ref_list : List ℕ → CellValue → CellValue
fit_ref_list t value.Null = value.Null
fit_ref_list t (value.Int n) = single_or (as_text (ty.RefList t) (value.Int n)) (row_number n)
fit_ref_list t (value.Bool b) = as_text (ty.RefList t) (value.Bool b)
fit_ref_list t (value.Text []) = value.Null
fit_ref_list t (value.Text (c ∷ cs)) = value.Text (c ∷ cs)
fit_ref_list t (value.Date n) = as_text (ty.RefList t) (value.Date n)
fit_ref_list t (value.Rec r) =
    if bytes_eq r.table t then single_or value.Null (Some r.row)
    else as_text (ty.RefList t) (value.Rec r)
fit_ref_list t (value.RecSet s) =
    if bytes_eq s.table t then list_of_rows s.rows else as_text (ty.RefList t) (value.RecSet s)
fit_ref_list t (value.List items) =
    rows_or (as_text (ty.RefList t) (value.List items)) (rows_in t items)
fit_ref_list t (value.Err e) = value.Err e
fit_ref_list t value.Censored = value.Censored

-- what the value becomes in a column of the type
abbrev pub fit : ColType → CellValue → CellValue
fit ty.Any v = fit_any v
fit ty.Text v = fit_text v
fit ty.Int v = fit_int v
fit ty.Bool v = fit_bool v
fit ty.Date v = fit_date v
fit (ty.Ref t) v = fit_ref t v
fit (ty.RefList t) v = fit_ref_list t v
