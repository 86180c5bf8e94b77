-- What a base value becomes in a column is a base value.
use Rattle.std.proofs.Common.{◌≡◌, ℕ, ℤ, pos, suc, Bool, true, false, List, [], ◌∷◌, map, length, nat_le, Option, Some, None, refl, sym, ap, ◌∙◌, if◌then◌else◌, unwrap_or}
use Rattle.std.proofs.lemmas.Bool.{and_parts, true≢false, false≢true}
use Rattle.std.proofs.lemmas.List.{length-map}
use Rattle.std.specs.List.{list_all}
use Rattle.std.specs.Option.{is_some}
use Rattle.cell_types.specs.declared.column_type.ColType.{ColType}
use Rattle.cell_types.specs.declared.column_type.ColType.TheVariants as ty
use Rattle.cell_types.specs.declared.value.CellItem.{CellItem}
use Rattle.cell_types.specs.declared.value.CellItem.TheVariants as item
use Rattle.cell_types.specs.declared.value.CellValue.{CellValue}
use Rattle.cell_types.specs.declared.value.CellValue.TheVariants as value
use Rattle.cell_types.specs.Conversion.{default_value, as_text, says_true, says_false, int_or, row_or, row_of_number, list_of_rows, rows_or, single_or, fit_text, fit_int, fit_bool, fit_date, fit_ref, fit_ref_list, fit}
use Rattle.cell_types.specs.Decimal.{decimal_of}
use Rattle.cell_types.specs.Reference.{row_number, row_in, with_first, rows_in, row_items}
use Rattle.cell_types.specs.TextBound.{text_bound}
use Rattle.cell_types.specs.ValueText.{value_text}
use Rattle.doc_model.specs.Column.{is_base, is_base_item}
use Rattle.doc_model.proofs.Choices.{both_true}

default_base : (type : ColType) → is_base (default_value type) ≡ true
default_base ty.Any = refl
default_base ty.Text = refl
default_base ty.Int = refl
default_base ty.Bool = refl
default_base ty.Date = refl
default_base (ty.Ref t) = refl
default_base (ty.RefList t) = refl

-- a text within the bound, or the default
shown_base : (type : ColType) (v : CellValue) → is_base (as_text type v) ≡ true
shown_base type v =
    elim (nat_le (length (value_text v)) text_bound) as (λ b. nat_le (length (value_text v)) text_bound ≡ b → is_base (if b then value.Text (value_text v) else default_value type) ≡ true) [
      | true ↦ λ e. e
      | false ↦ λ _. default_base type
    ] refl

text_base : (v : CellValue) → is_base v ≡ true → is_base (fit_text v) ≡ true
text_base value.Null h = refl
text_base (value.Int n) h = shown_base ty.Text (value.Int n)
text_base (value.Bool b) h = shown_base ty.Text (value.Bool b)
text_base (value.Text t) h = h
text_base (value.Date n) h = shown_base ty.Text (value.Date n)
text_base (value.Rec r) h = shown_base ty.Text (value.Rec r)
text_base (value.RecSet s) h = shown_base ty.Text (value.RecSet s)
text_base (value.List is) h = shown_base ty.Text (value.List is)
text_base (value.Err e) h = h
text_base value.Censored h = h

int_or_base : (v : CellValue) (o : Option ℤ) → is_base v ≡ true → is_base (int_or v o) ≡ true
int_or_base v None h = h
int_or_base v (Some n) h = refl

int_base : (v : CellValue) → is_base v ≡ true → is_base (fit_int v) ≡ true
int_base value.Null h = refl
int_base (value.Int n) h = refl
int_base (value.Bool b) h = refl
int_base (value.Text []) h = refl
int_base (value.Text (c ∷ cs)) h = int_or_base (value.Text (c ∷ cs)) (decimal_of (c ∷ cs)) h
int_base (value.Date n) h = refl
int_base (value.Rec r) h = shown_base ty.Int (value.Rec r)
int_base (value.RecSet s) h = shown_base ty.Int (value.RecSet s)
int_base (value.List is) h = shown_base ty.Int (value.List is)
int_base (value.Err e) h = h
int_base value.Censored h = h

word_base : (v : CellValue) (t f : Bool) → is_base v ≡ true → is_base (if t then value.Bool true else (if f then value.Bool false else v)) ≡ true
word_base v true f h = refl
word_base v false true h = refl
word_base v false false h = h

bool_base : (v : CellValue) → is_base v ≡ true → is_base (fit_bool v) ≡ true
bool_base value.Null h = refl
bool_base (value.Int n) h = refl
bool_base (value.Bool b) h = refl
bool_base (value.Text []) h = refl
bool_base (value.Text (c ∷ cs)) h = word_base (value.Text (c ∷ cs)) (says_true (c ∷ cs)) (says_false (c ∷ cs)) h
bool_base (value.Date n) h = shown_base ty.Bool (value.Date n)
bool_base (value.Rec r) h = shown_base ty.Bool (value.Rec r)
bool_base (value.RecSet s) h = shown_base ty.Bool (value.RecSet s)
bool_base (value.List is) h = shown_base ty.Bool (value.List is)
bool_base (value.Err e) h = h
bool_base value.Censored h = h

date_base : (v : CellValue) → is_base v ≡ true → is_base (fit_date v) ≡ true
date_base value.Null h = refl
date_base (value.Int n) h = refl
date_base (value.Bool b) h = shown_base ty.Date (value.Bool b)
date_base (value.Text []) h = refl
date_base (value.Text (c ∷ cs)) h = h
date_base (value.Date n) h = refl
date_base (value.Rec r) h = shown_base ty.Date (value.Rec r)
date_base (value.RecSet s) h = shown_base ty.Date (value.RecSet s)
date_base (value.List is) h = shown_base ty.Date (value.List is)
date_base (value.Err e) h = h
date_base value.Censored h = h

row_or_base : (v : CellValue) (o : Option ℕ) → is_base v ≡ true → is_base (row_or v o) ≡ true
row_or_base v None h = h
row_or_base v (Some r) h = refl

ref_base : (t : List ℕ) (v : CellValue) → is_base v ≡ true → is_base (fit_ref t v) ≡ true
ref_base t value.Null h = refl
ref_base t (value.Int n) h = row_or_base (as_text (ty.Ref t) (value.Int n)) (row_number n) (shown_base (ty.Ref t) (value.Int n))
ref_base t (value.Bool b) h = shown_base (ty.Ref t) (value.Bool b)
ref_base t (value.Text []) h = refl
ref_base t (value.Text (c ∷ cs)) h = row_or_base (value.Text (c ∷ cs)) (row_of_number (decimal_of (c ∷ cs))) h
ref_base t (value.Date n) h = shown_base (ty.Ref t) (value.Date n)
ref_base t (value.Rec r) h = absurd (false≢true h)
ref_base t (value.RecSet s) h = shown_base (ty.Ref t) (value.RecSet s)
ref_base t (value.List is) h = shown_base (ty.Ref t) (value.List is)
ref_base t (value.Err e) h = h
ref_base t value.Censored h = h

-- the items of rows, and how many there are
items_base : (rows : List ℕ) → list_all is_base_item (row_items rows) ≡ true
items_base [] = refl
items_base (r ∷ rs) = items_base rs

rows_base : (rows : List ℕ) → nat_le (length rows) 10000 ≡ true → is_base (list_of_rows rows) ≡ true
rows_base [] h = refl
rows_base (r ∷ rs) h =
    both_true (nat_le (length (row_items (r ∷ rs))) 10000) (list_all is_base_item (row_items (r ∷ rs)))
    (ap (λ n. nat_le n 10000) (length-map (r ∷ rs) (λ r. item.Int (pos r))) ∙ h) (items_base (r ∷ rs))

with_first_length : (first : Option ℕ) (more : Option (List ℕ)) (rows : List ℕ) (n : ℕ) → with_first first more ≡ Some rows → ((rs : List ℕ) → more ≡ Some rs → length rs ≡ n) → length rows ≡ suc n
with_first_length None more rows n e rest = absurd (true≢false (sym (ap is_some e)))
with_first_length (Some r) None rows n e rest = absurd (true≢false (sym (ap is_some e)))
with_first_length (Some r) (Some rs) rows n e rest = sym (ap (λ o. length (unwrap_or o [])) e) ∙ ap suc (rest rs refl)

rows_in_length : (t : List ℕ) (is : List CellItem) (rows : List ℕ) → rows_in t is ≡ Some rows → length rows ≡ length is
rows_in_length t [] rows e = sym (ap (λ o. length (unwrap_or o [])) e)
rows_in_length t (i ∷ is) rows e = with_first_length (row_in t i) (rows_in t is) rows (length is) e (λ rs k. rows_in_length t is rs k)

rows_or_base : (v : CellValue) (o : Option (List ℕ)) → is_base v ≡ true → ((rows : List ℕ) → o ≡ Some rows → nat_le (length rows) 10000 ≡ true) → is_base (rows_or v o) ≡ true
rows_or_base v None h few = h
rows_or_base v (Some rows) h few = rows_base rows (few rows refl)

single_or_base : (v : CellValue) (o : Option ℕ) → is_base v ≡ true → is_base (single_or v o) ≡ true
single_or_base v None h = h
single_or_base v (Some r) h =
    elim (nat_le r 0) as (λ b. is_base (if b then value.Null else value.List (row_items (r ∷ []))) ≡ true) [
      | true ↦ refl
      | false ↦ refl
    ]

list_base : (t : List ℕ) (is : List CellItem) → is_base (value.List is) ≡ true → is_base (fit_ref_list t (value.List is)) ≡ true
list_base t is h =
    let few : nat_le (length is) 10000 ≡ true = (and_parts (nat_le (length is) 10000) (list_all is_base_item is) h).0 in
    rows_or_base (as_text (ty.RefList t) (value.List is)) (rows_in t is) (shown_base (ty.RefList t) (value.List is))
    (λ rows e. ap (λ n. nat_le n 10000) (rows_in_length t is rows e) ∙ few)

ref_list_base : (t : List ℕ) (v : CellValue) → is_base v ≡ true → is_base (fit_ref_list t v) ≡ true
ref_list_base t value.Null h = refl
ref_list_base t (value.Int n) h = single_or_base (as_text (ty.RefList t) (value.Int n)) (row_number n) (shown_base (ty.RefList t) (value.Int n))
ref_list_base t (value.Bool b) h = shown_base (ty.RefList t) (value.Bool b)
ref_list_base t (value.Text []) h = refl
ref_list_base t (value.Text (c ∷ cs)) h = h
ref_list_base t (value.Date n) h = shown_base (ty.RefList t) (value.Date n)
ref_list_base t (value.Rec r) h = absurd (false≢true h)
ref_list_base t (value.RecSet s) h = absurd (false≢true h)
ref_list_base t (value.List is) h = list_base t is h
ref_list_base t (value.Err e) h = h
ref_list_base t value.Censored h = h

-- a base value stays one in a column of any type
pub is_base-fit : (type : ColType) (v : CellValue) → is_base v ≡ true → is_base (fit type v) ≡ true
is_base-fit ty.Any v h = h
is_base-fit ty.Text v h = text_base v h
is_base-fit ty.Int v h = int_base v h
is_base-fit ty.Bool v h = bool_base v h
is_base-fit ty.Date v h = date_base v h
is_base-fit (ty.Ref t) v h = ref_base t v h
is_base-fit (ty.RefList t) v h = ref_list_base t v h

-- and so do the values of a column
pub all_base-fit : (type : ColType) (vs : List CellValue) → list_all is_base vs ≡ true → list_all is_base (map (fit type) vs) ≡ true
all_base-fit type [] h = refl
all_base-fit type (v ∷ vs) h =
    let p : (is_base v ≡ true) × (list_all is_base vs ≡ true) = and_parts (is_base v) (list_all is_base vs) h in
    both_true (is_base (fit type v)) (list_all is_base (map (fit type) vs)) (is_base-fit type v p.0) (all_base-fit type vs p.1)
