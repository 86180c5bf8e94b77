-- Conversion makes no error.
use Rattle.std.proofs.Common.{ℕ, ℤ, pos, Bool, true, false, List, [], ◌∷◌, ◌≡◌, refl, ap, Option, Some, None, if◌then◌else◌, bytes_eq, length, nat_le}
use Rattle.cell_types.specs.declared.column_type.ColType.{ColType}
use Rattle.cell_types.specs.declared.column_type.ColType.TheVariants as ty
use Rattle.cell_types.specs.declared.value.CellValue.{CellValue}
use Rattle.cell_types.specs.declared.value.CellValue.TheVariants as value
use Rattle.cell_types.specs.ConversionLaws.{NoErrorIsMade, is_error}
use Rattle.cell_types.specs.Conversion.{default_value, as_text, says_true, says_false, int_or, row_or, row_of_number, list_of_rows, rows_or, single_or, fit}
use Rattle.cell_types.specs.Decimal.{decimal_of}
use Rattle.cell_types.specs.Reference.{row_number, rows_in, row_items}
use Rattle.cell_types.specs.TextBound.{text_bound}
use Rattle.cell_types.specs.ValueText.{value_text}

abbrev IsNoError : CellValue → Type 0
IsNoError v = is_error v ≡ false

either : (b : Bool) (v w : CellValue) → IsNoError v → IsNoError w → IsNoError (if b then v else w)
either true v w p q = p
either false v w p q = q

no_default : (t : ColType) → IsNoError (default_value t)
no_default ty.Any = refl
no_default ty.Text = refl
no_default ty.Int = refl
no_default ty.Bool = refl
no_default ty.Date = refl
no_default (ty.Ref t) = refl
no_default (ty.RefList t) = refl

no_text : (t : ColType) (v : CellValue) → IsNoError (as_text t v)
no_text t v = either (nat_le (length (value_text v)) text_bound) (value.Text (value_text v)) (default_value t) refl (no_default t)

no_int : (v : CellValue) (o : Option ℤ) → IsNoError v → IsNoError (int_or v o)
no_int v None h = h
no_int v (Some n) h = refl

no_row : (v : CellValue) (o : Option ℕ) → IsNoError v → IsNoError (row_or v o)
no_row v None h = h
no_row v (Some n) h = refl

no_rows : (rs : List ℕ) → IsNoError (list_of_rows rs)
no_rows [] = refl
no_rows (r ∷ rs) = refl

no_list : (v : CellValue) (o : Option (List ℕ)) → IsNoError v → IsNoError (rows_or v o)
no_list v None h = h
no_list v (Some rs) h = no_rows rs

no_single : (v : CellValue) (o : Option ℕ) → IsNoError v → IsNoError (single_or v o)
no_single v None h = h
no_single v (Some r) h = either (nat_le r 0) value.Null (value.List (row_items (r ∷ []))) refl refl

pub fit_no_error : NoErrorIsMade
fit_no_error ty.Any v h = h
fit_no_error ty.Text value.Null h = refl
fit_no_error ty.Text (value.Int n) h = no_text ty.Text (value.Int n)
fit_no_error ty.Text (value.Bool b) h = no_text ty.Text (value.Bool b)
fit_no_error ty.Text (value.Text t) h = refl
fit_no_error ty.Text (value.Date n) h = no_text ty.Text (value.Date n)
fit_no_error ty.Text (value.Rec r) h = no_text ty.Text (value.Rec r)
fit_no_error ty.Text (value.RecSet s) h = no_text ty.Text (value.RecSet s)
fit_no_error ty.Text (value.List items) h = no_text ty.Text (value.List items)
fit_no_error ty.Text (value.Err e) h = h
fit_no_error ty.Text value.Censored h = refl
fit_no_error ty.Int value.Null h = refl
fit_no_error ty.Int (value.Int n) h = refl
fit_no_error ty.Int (value.Bool b) h = refl
fit_no_error ty.Int (value.Text []) h = refl
fit_no_error ty.Int (value.Text (c ∷ cs)) h = no_int (value.Text (c ∷ cs)) (decimal_of (c ∷ cs)) refl
fit_no_error ty.Int (value.Date n) h = refl
fit_no_error ty.Int (value.Rec r) h = no_text ty.Int (value.Rec r)
fit_no_error ty.Int (value.RecSet s) h = no_text ty.Int (value.RecSet s)
fit_no_error ty.Int (value.List items) h = no_text ty.Int (value.List items)
fit_no_error ty.Int (value.Err e) h = h
fit_no_error ty.Int value.Censored h = refl
fit_no_error ty.Bool value.Null h = refl
fit_no_error ty.Bool (value.Int n) h = refl
fit_no_error ty.Bool (value.Bool b) h = refl
fit_no_error ty.Bool (value.Text []) h = refl
fit_no_error ty.Bool (value.Text (c ∷ cs)) h =
    either (says_true (c ∷ cs)) (value.Bool true) (if says_false (c ∷ cs) then value.Bool false else value.Text (c ∷ cs)) refl
    (either (says_false (c ∷ cs)) (value.Bool false) (value.Text (c ∷ cs)) refl refl)
fit_no_error ty.Bool (value.Date n) h = no_text ty.Bool (value.Date n)
fit_no_error ty.Bool (value.Rec r) h = no_text ty.Bool (value.Rec r)
fit_no_error ty.Bool (value.RecSet s) h = no_text ty.Bool (value.RecSet s)
fit_no_error ty.Bool (value.List items) h = no_text ty.Bool (value.List items)
fit_no_error ty.Bool (value.Err e) h = h
fit_no_error ty.Bool value.Censored h = refl
fit_no_error ty.Date value.Null h = refl
fit_no_error ty.Date (value.Int n) h = refl
fit_no_error ty.Date (value.Bool b) h = no_text ty.Date (value.Bool b)
fit_no_error ty.Date (value.Text []) h = refl
fit_no_error ty.Date (value.Text (c ∷ cs)) h = refl
fit_no_error ty.Date (value.Date n) h = refl
fit_no_error ty.Date (value.Rec r) h = no_text ty.Date (value.Rec r)
fit_no_error ty.Date (value.RecSet s) h = no_text ty.Date (value.RecSet s)
fit_no_error ty.Date (value.List items) h = no_text ty.Date (value.List items)
fit_no_error ty.Date (value.Err e) h = h
fit_no_error ty.Date value.Censored h = refl
fit_no_error (ty.Ref t) value.Null h = refl
fit_no_error (ty.Ref t) (value.Int n) h = no_row (as_text (ty.Ref t) (value.Int n)) (row_number n) (no_text (ty.Ref t) (value.Int n))
fit_no_error (ty.Ref t) (value.Bool b) h = no_text (ty.Ref t) (value.Bool b)
fit_no_error (ty.Ref t) (value.Text []) h = refl
fit_no_error (ty.Ref t) (value.Text (c ∷ cs)) h = no_row (value.Text (c ∷ cs)) (row_of_number (decimal_of (c ∷ cs))) refl
fit_no_error (ty.Ref t) (value.Date n) h = no_text (ty.Ref t) (value.Date n)
fit_no_error (ty.Ref t) (value.Rec r) h = either (bytes_eq r.table t) (value.Int (pos r.row)) (as_text (ty.Ref t) (value.Rec r)) refl (no_text (ty.Ref t) (value.Rec r))
fit_no_error (ty.Ref t) (value.RecSet s) h = no_text (ty.Ref t) (value.RecSet s)
fit_no_error (ty.Ref t) (value.List items) h = no_text (ty.Ref t) (value.List items)
fit_no_error (ty.Ref t) (value.Err e) h = h
fit_no_error (ty.Ref t) value.Censored h = refl
fit_no_error (ty.RefList t) value.Null h = refl
fit_no_error (ty.RefList t) (value.Int n) h = no_single (as_text (ty.RefList t) (value.Int n)) (row_number n) (no_text (ty.RefList t) (value.Int n))
fit_no_error (ty.RefList t) (value.Bool b) h = no_text (ty.RefList t) (value.Bool b)
fit_no_error (ty.RefList t) (value.Text []) h = refl
fit_no_error (ty.RefList t) (value.Text (c ∷ cs)) h = refl
fit_no_error (ty.RefList t) (value.Date n) h = no_text (ty.RefList t) (value.Date n)
fit_no_error (ty.RefList t) (value.Rec r) h =
    either (bytes_eq r.table t) (single_or value.Null (Some r.row)) (as_text (ty.RefList t) (value.Rec r)) (no_single value.Null (Some r.row) refl) (no_text (ty.RefList t) (value.Rec r))
fit_no_error (ty.RefList t) (value.RecSet s) h =
    either (bytes_eq s.table t) (list_of_rows s.rows) (as_text (ty.RefList t) (value.RecSet s)) (no_rows s.rows) (no_text (ty.RefList t) (value.RecSet s))
fit_no_error (ty.RefList t) (value.List items) h = no_list (as_text (ty.RefList t) (value.List items)) (rows_in t items) (no_text (ty.RefList t) (value.List items))
fit_no_error (ty.RefList t) (value.Err e) h = h
fit_no_error (ty.RefList t) value.Censored h = refl
