-- Converting twice is converting once.
use Rattle.std.proofs.Common.{◌≡◌, ℕ, ℤ, pos, Bool, true, false, ◌&&◌, List, [], ◌∷◌, ◌++◌, map, length, nat_le, Option, Some, None, refl, sym, ap, subst, ◌∙◌, if◌then◌else◌, bytes_eq, codes, decimal, ⊎_elim}
use Rattle.std.proofs.lemmas.Bool.{cases_Bool, and_from, lt-ltb, leb-false}
use Rattle.std.specs.Fmt.{signed_decimal}
use Rattle.std.specs.List.{list_all, list_any}
use Rattle.cell_types.specs.declared.column_type.ColType.{ColType}
use Rattle.cell_types.specs.declared.column_type.ColType.TheVariants as ty
use Rattle.cell_types.specs.declared.value.CellItem.{CellItem}
use Rattle.cell_types.specs.declared.value.CellValue.{CellValue}
use Rattle.cell_types.specs.declared.value.RowRef.{RowRef}
use Rattle.cell_types.specs.declared.value.RowSet.{RowSet}
use Rattle.cell_types.specs.declared.value.CellValue.TheVariants as value
use Rattle.cell_types.specs.Conversion.{default_value, as_text, says_true, says_false, int_or, row_or, row_of_number, list_of_rows, rows_or, single_or, fit_text, fit_int, fit_bool, fit_date, fit_ref, fit_ref_list, fit}
use Rattle.cell_types.specs.ConversionLaws.{fits_32_bits, item_has_sizes, has_sizes, is_exception, DefaultFits, TwiceIsOnce}
use Rattle.cell_types.specs.Decimal.{decimal_of, fits_64_bits}
use Rattle.cell_types.specs.Reference.{row_number, rows_in, row_items}
use Rattle.cell_types.specs.TextBound.{text_bound}
use Rattle.cell_types.specs.ValueText.{item_text, comma_joined, value_text}
use Rattle.cell_types.proofs.DecimalTexts.{decimal_reads_back}
use Rattle.cell_types.proofs.PlainTexts.{IsPlain, int_stays, bool_stays, date_stays, ref_stays, ref_list_stays, filled_from_number, bracket_plain, parts_plain, date_plain, true_number, false_number}
use Rattle.cell_types.proofs.RowLemmas.{is_row, small_row, row_number_small, row_of_number_small, rows_in_rows, rows_in-row_items, rows_without_zero}

pub default_fits : DefaultFits
default_fits ty.Any = refl
default_fits ty.Text = refl
default_fits ty.Int = refl
default_fits ty.Bool = refl
default_fits ty.Date = refl
default_fits (ty.Ref t) = refl
default_fits (ty.RefList t) = refl

-- where the first conversion lands on a value that stays
lands : (f : CellValue → CellValue) (v w : CellValue) → f v ≡ w → f w ≡ w → f (f v) ≡ f v
lands f v w e h = ap f e ∙ h ∙ sym e

-- a value shown as a text that stays
shown_stays : (type : ColType) (v : CellValue) → fit type (value.Text (value_text v)) ≡ value.Text (value_text v) → fit type (as_text type v) ≡ as_text type v
shown_stays type v h =
    elim (nat_le (length (value_text v)) text_bound) as (λ b. fit type (if b then value.Text (value_text v) else default_value type) ≡ (if b then value.Text (value_text v) else default_value type)) [
      | true ↦ h
      | false ↦ default_fits type
    ]

plain_stays : (type : ColType) (text : List ℕ) → IsPlain text → fit type (value.Text text) ≡ value.Text text
plain_stays ty.Any text p = refl
plain_stays ty.Text text p = refl
plain_stays ty.Int text p = int_stays text p.filled p.number
plain_stays ty.Bool text p = bool_stays text p.filled p.affirms p.denies
plain_stays ty.Date text p = date_stays text p.filled
plain_stays (ty.Ref t) text p = ref_stays t text p.filled (ap row_of_number p.number)
plain_stays (ty.RefList t) text p = ref_list_stays t text p.filled

shown_plain : (type : ColType) (v : CellValue) → IsPlain (value_text v) → fit type (as_text type v) ≡ as_text type v
shown_plain type v p = shown_stays type v (plain_stays type (value_text v) p)

-- values that are shown as plain texts
shown_date : (type : ColType) (n : ℤ) → fit type (as_text type (value.Date n)) ≡ as_text type (value.Date n)
shown_date type n = shown_plain type (value.Date n) (date_plain (signed_decimal n))

shown_rec : (type : ColType) (r : RowRef) → fit type (as_text type (value.Rec r)) ≡ as_text type (value.Rec r)
shown_rec type r = shown_plain type (value.Rec r) (parts_plain r.table [] (decimal r.row) (codes "]"))

shown_set : (type : ColType) (s : RowSet) → fit type (as_text type (value.RecSet s)) ≡ as_text type (value.RecSet s)
shown_set type s = shown_plain type (value.RecSet s) (parts_plain s.table (91 ∷ []) (comma_joined (map decimal s.rows)) (codes "]]"))

shown_list : (type : ColType) (is : List CellItem) → fit type (as_text type (value.List is)) ≡ as_text type (value.List is)
shown_list type is = shown_plain type (value.List is) (bracket_plain [] (comma_joined (map item_text is) ++ codes "]"))

text_twice : (v : CellValue) → fit_text (fit_text v) ≡ fit_text v
text_twice value.Null = refl
text_twice (value.Int n) = shown_stays ty.Text (value.Int n) refl
text_twice (value.Bool b) = shown_stays ty.Text (value.Bool b) refl
text_twice (value.Text t) = refl
text_twice (value.Date n) = shown_date ty.Text n
text_twice (value.Rec r) = shown_rec ty.Text r
text_twice (value.RecSet s) = shown_set ty.Text s
text_twice (value.List is) = shown_list ty.Text is
text_twice (value.Err e) = refl
text_twice value.Censored = refl

int_text_twice : (c : ℕ) (cs : List ℕ) (o : Option ℤ) → decimal_of (c ∷ cs) ≡ o → fit_int (fit_int (value.Text (c ∷ cs))) ≡ fit_int (value.Text (c ∷ cs))
int_text_twice c cs None e = ap fit_int (int_stays (c ∷ cs) tt e)
int_text_twice c cs (Some n) e = lands fit_int (value.Text (c ∷ cs)) (value.Int n) (ap (int_or (value.Text (c ∷ cs))) e) refl

int_twice : (v : CellValue) → fit_int (fit_int v) ≡ fit_int v
int_twice value.Null = refl
int_twice (value.Int n) = refl
int_twice (value.Bool b) = refl
int_twice (value.Text []) = refl
int_twice (value.Text (c ∷ cs)) = int_text_twice c cs (decimal_of (c ∷ cs)) refl
int_twice (value.Date n) = refl
int_twice (value.Rec r) = shown_rec ty.Int r
int_twice (value.RecSet s) = shown_set ty.Int s
int_twice (value.List is) = shown_list ty.Int is
int_twice (value.Err e) = refl
int_twice value.Censored = refl

bool_text_twice : (c : ℕ) (cs : List ℕ) → fit_bool (fit_bool (value.Text (c ∷ cs))) ≡ fit_bool (value.Text (c ∷ cs))
bool_text_twice c cs =
    let f : Bool → Bool → CellValue = λ t n. if t then value.Bool true else (if n then value.Bool false else value.Text (c ∷ cs)) in
    ⊎_elim
    (λ t. lands fit_bool (value.Text (c ∷ cs)) (value.Bool true) (ap (λ b. f b (says_false (c ∷ cs))) t) refl)
    (λ t. ⊎_elim
    (λ n. lands fit_bool (value.Text (c ∷ cs)) (value.Bool false) (ap (λ b. f b (says_false (c ∷ cs))) t ∙ ap (f false) n) refl)
    (λ n. ap fit_bool (bool_stays (c ∷ cs) tt t n))
    (cases_Bool (says_false (c ∷ cs))))
    (cases_Bool (says_true (c ∷ cs)))

bool_twice : (v : CellValue) → fit_bool (fit_bool v) ≡ fit_bool v
bool_twice value.Null = refl
bool_twice (value.Int n) = refl
bool_twice (value.Bool b) = refl
bool_twice (value.Text []) = refl
bool_twice (value.Text (c ∷ cs)) = bool_text_twice c cs
bool_twice (value.Date n) = shown_date ty.Bool n
bool_twice (value.Rec r) = shown_rec ty.Bool r
bool_twice (value.RecSet s) = shown_set ty.Bool s
bool_twice (value.List is) = shown_list ty.Bool is
bool_twice (value.Err e) = refl
bool_twice value.Censored = refl

date_twice : (v : CellValue) → fit_date (fit_date v) ≡ fit_date v
date_twice value.Null = refl
date_twice (value.Int n) = refl
date_twice (value.Bool true) = shown_stays ty.Date (value.Bool true) refl
date_twice (value.Bool false) = shown_stays ty.Date (value.Bool false) refl
date_twice (value.Text []) = refl
date_twice (value.Text (c ∷ cs)) = refl
date_twice (value.Date n) = refl
date_twice (value.Rec r) = shown_rec ty.Date r
date_twice (value.RecSet s) = shown_set ty.Date s
date_twice (value.List is) = shown_list ty.Date is
date_twice (value.Err e) = refl
date_twice value.Censored = refl

row_stays : (t : List ℕ) (r : ℕ) → fits_32_bits r ≡ true → fit_ref t (value.Int (pos r)) ≡ value.Int (pos r)
row_stays t r h = ap (row_or (as_text (ty.Ref t) (value.Int (pos r)))) (small_row r h)

ref_int_twice : (t : List ℕ) (n : ℤ) → fits_64_bits n ≡ true → (o : Option ℕ) → row_number n ≡ o → fit_ref t (fit_ref t (value.Int n)) ≡ fit_ref t (value.Int n)
ref_int_twice t n h (Some r) e =
    lands (fit_ref t) (value.Int n) (value.Int (pos r)) (ap (row_or (as_text (ty.Ref t) (value.Int n))) e) (row_stays t r (row_number_small n r e))
ref_int_twice t n h None e =
    let back = decimal_reads_back n h in
    let stays = ref_stays t (signed_decimal n) (filled_from_number (signed_decimal n) n back) (ap row_of_number back ∙ e) in
    lands (fit_ref t) (value.Int n) (as_text (ty.Ref t) (value.Int n)) (ap (row_or (as_text (ty.Ref t) (value.Int n))) e)
    (shown_stays (ty.Ref t) (value.Int n) stays)

ref_text_twice : (t : List ℕ) (c : ℕ) (cs : List ℕ) (o : Option ℕ) → row_of_number (decimal_of (c ∷ cs)) ≡ o → fit_ref t (fit_ref t (value.Text (c ∷ cs))) ≡ fit_ref t (value.Text (c ∷ cs))
ref_text_twice t c cs None e = ap (fit_ref t) (ref_stays t (c ∷ cs) tt e)
ref_text_twice t c cs (Some r) e =
    lands (fit_ref t) (value.Text (c ∷ cs)) (value.Int (pos r)) (ap (row_or (value.Text (c ∷ cs))) e) (row_stays t r (row_of_number_small (decimal_of (c ∷ cs)) r e))

ref_twice : (t : List ℕ) (v : CellValue) → has_sizes v ≡ true → fit_ref t (fit_ref t v) ≡ fit_ref t v
ref_twice t value.Null h = refl
ref_twice t (value.Int n) h = ref_int_twice t n h (row_number n) refl
ref_twice t (value.Bool true) h = shown_stays (ty.Ref t) (value.Bool true) (ref_stays t (codes "True") tt (ap row_of_number true_number))
ref_twice t (value.Bool false) h = shown_stays (ty.Ref t) (value.Bool false) (ref_stays t (codes "False") tt (ap row_of_number false_number))
ref_twice t (value.Text []) h = refl
ref_twice t (value.Text (c ∷ cs)) h = ref_text_twice t c cs (row_of_number (decimal_of (c ∷ cs))) refl
ref_twice t (value.Date n) h = shown_date (ty.Ref t) n
ref_twice t (value.Rec r) h =
    elim (bytes_eq r.table t) as (λ b. fit_ref t (if b then value.Int (pos r.row) else as_text (ty.Ref t) (value.Rec r)) ≡ (if b then value.Int (pos r.row) else as_text (ty.Ref t) (value.Rec r))) [
      | true ↦ row_stays t r.row h
      | false ↦ shown_rec (ty.Ref t) r
    ]
ref_twice t (value.RecSet s) h = shown_set (ty.Ref t) s
ref_twice t (value.List is) h = shown_list (ty.Ref t) is
ref_twice t (value.Err e) h = refl
ref_twice t value.Censored h = refl

-- a list of rows stays
rows_stay : (t rows : List ℕ) → list_all is_row rows ≡ true → fit_ref_list t (list_of_rows rows) ≡ list_of_rows rows
rows_stay t [] h = refl
rows_stay t (r ∷ rs) h = ap (rows_or (as_text (ty.RefList t) (value.List (row_items (r ∷ rs))))) (rows_in-row_items t (r ∷ rs) h)

single_stays : (t : List ℕ) (other : CellValue) (r : ℕ) → fits_32_bits r ≡ true → fit_ref_list t (single_or other (Some r)) ≡ single_or other (Some r)
single_stays t other r h = ⊎_elim
    (λ z. subst (λ b. fit_ref_list t (if b then value.Null else value.List (row_items (r ∷ []))) ≡ (if b then value.Null else value.List (row_items (r ∷ [])))) (sym z) refl)
    (λ z. subst (λ b. fit_ref_list t (if b then value.Null else value.List (row_items (r ∷ []))) ≡ (if b then value.Null else value.List (row_items (r ∷ [])))) (sym z)
    (rows_stay t (r ∷ []) (and_from _ _ (and_from _ _ (lt-ltb 0 r (leb-false r 0 z)) h) refl)))
    (cases_Bool (nat_le r 0))

list_int_twice : (t : List ℕ) (n : ℤ) → fits_64_bits n ≡ true → (o : Option ℕ) → row_number n ≡ o → fit_ref_list t (fit_ref_list t (value.Int n)) ≡ fit_ref_list t (value.Int n)
list_int_twice t n h (Some r) e =
    let other = as_text (ty.RefList t) (value.Int n) in
    lands (fit_ref_list t) (value.Int n) (single_or other (Some r)) (ap (single_or other) e) (single_stays t other r (row_number_small n r e))
list_int_twice t n h None e =
    let other = as_text (ty.RefList t) (value.Int n) in
    let filled = filled_from_number (signed_decimal n) n (decimal_reads_back n h) in
    lands (fit_ref_list t) (value.Int n) other (ap (single_or other) e) (shown_stays (ty.RefList t) (value.Int n) (ref_list_stays t (signed_decimal n) filled))

list_list_twice : (t : List ℕ) (is : List CellItem) → list_all item_has_sizes is ≡ true → (o : Option (List ℕ)) → rows_in t is ≡ o → fit_ref_list t (fit_ref_list t (value.List is)) ≡ fit_ref_list t (value.List is)
list_list_twice t is h None e =
    let other = as_text (ty.RefList t) (value.List is) in
    lands (fit_ref_list t) (value.List is) other (ap (rows_or other) e) (shown_list (ty.RefList t) is)
list_list_twice t is h (Some rows) e =
    let other = as_text (ty.RefList t) (value.List is) in
    lands (fit_ref_list t) (value.List is) (list_of_rows rows) (ap (rows_or other) e) (rows_stay t rows (rows_in_rows t is rows h e))

ref_list_twice : (t : List ℕ) (v : CellValue) → has_sizes v ≡ true → is_exception (ty.RefList t) v ≡ false → fit_ref_list t (fit_ref_list t v) ≡ fit_ref_list t v
ref_list_twice t value.Null h x = refl
ref_list_twice t (value.Int n) h x = list_int_twice t n h (row_number n) refl
ref_list_twice t (value.Bool true) h x = shown_stays (ty.RefList t) (value.Bool true) refl
ref_list_twice t (value.Bool false) h x = shown_stays (ty.RefList t) (value.Bool false) refl
ref_list_twice t (value.Text []) h x = refl
ref_list_twice t (value.Text (c ∷ cs)) h x = refl
ref_list_twice t (value.Date n) h x = shown_date (ty.RefList t) n
ref_list_twice t (value.Rec r) h x =
    elim (bytes_eq r.table t) as (λ b. fit_ref_list t (if b then single_or value.Null (Some r.row) else as_text (ty.RefList t) (value.Rec r)) ≡ (if b then single_or value.Null (Some r.row) else as_text (ty.RefList t) (value.Rec r))) [
      | true ↦ single_stays t value.Null r.row h
      | false ↦ shown_rec (ty.RefList t) r
    ]
ref_list_twice t (value.RecSet s) h x =
    elim (bytes_eq s.table t) as (λ b. (b && list_any (λ r. nat_le r 0) s.rows) ≡ false → fit_ref_list t (if b then list_of_rows s.rows else as_text (ty.RefList t) (value.RecSet s)) ≡ (if b then list_of_rows s.rows else as_text (ty.RefList t) (value.RecSet s))) [
      | true ↦ λ z. rows_stay t s.rows (rows_without_zero s.rows h z)
      | false ↦ λ z. shown_set (ty.RefList t) s
    ] x
ref_list_twice t (value.List is) h x = list_list_twice t is h (rows_in t is) refl
ref_list_twice t (value.Err e) h x = refl
ref_list_twice t value.Censored h x = refl

pub twice_is_once : TwiceIsOnce
twice_is_once ty.Any v h x = refl
twice_is_once ty.Text v h x = text_twice v
twice_is_once ty.Int v h x = int_twice v
twice_is_once ty.Bool v h x = bool_twice v
twice_is_once ty.Date v h x = date_twice v
twice_is_once (ty.Ref t) v h x = ref_twice t v h
twice_is_once (ty.RefList t) v h x = ref_list_twice t v h x
