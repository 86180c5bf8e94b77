-- Rows in lists, written and read back.
use Rattle.std.proofs.Common.{◌≡◌, ℕ, ℤ, pos, negsuc, Bool, true, false, ◌&&◌, List, [], ◌∷◌, nat_lt, nat_le, Option, Some, None, refl, sym, ap, subst, ◌∙◌, if◌then◌else◌, bytes_eq, unwrap_or, true≢false, leb-false, lt-ltb}
use Rattle.std.proofs.lemmas.Bool.{cases_Bool, and_parts, and_from, or_parts}
use Rattle.std.proofs.Common.{⊎_elim}
use Rattle.std.specs.List.{list_all, list_any}
use Rattle.std.specs.Option.{is_some}
use Rattle.cell_types.specs.declared.value.CellItem.{CellItem}
use Rattle.cell_types.specs.declared.value.CellItem.TheVariants as item
use Rattle.cell_types.specs.Conversion.{row_of_number}
use Rattle.cell_types.specs.ConversionLaws.{fits_32_bits, item_has_sizes}
use Rattle.cell_types.specs.Reference.{row_number, no_zero, row_in, with_first, rows_in, row_items}

not_some : {A : Type 0} (x : A) → None ≡ Some x → {B : Type 0} → B
not_some x e = absurd (true≢false (sym (ap is_some e)))

same_some : (m n : ℕ) → Some m ≡ Some n → m ≡ n
same_some m n e = ap (λ o. unwrap_or o 0) e

-- a row number reads back
pub small_row : (r : ℕ) → fits_32_bits r ≡ true → row_number (pos r) ≡ Some r
small_row r h = ap (λ b. if b then Some r else None) h

pub row_number_small : (z : ℤ) (r : ℕ) → row_number z ≡ Some r → fits_32_bits r ≡ true
row_number_small (negsuc n) r e = not_some r e
row_number_small (pos n) r e = ⊎_elim
    (λ t. subst (λ k. fits_32_bits k ≡ true) (same_some n r (sym (small_row n t) ∙ e)) t)
    (λ f. not_some r (sym (ap (λ b. if b then Some n else None) f) ∙ e))
    (cases_Bool (nat_le n 4294967295))

pub row_of_number_small : (o : Option ℤ) (r : ℕ) → row_of_number o ≡ Some r → fits_32_bits r ≡ true
row_of_number_small None r e = not_some r e
row_of_number_small (Some z) r e = row_number_small z r e

-- a row from 1
abbrev pub is_row : ℕ → Bool
is_row r = nat_lt 0 r && fits_32_bits r

no_zero_positive : (n r : ℕ) → no_zero (Some n) ≡ Some r → (n ≡ r) × (nat_lt 0 n ≡ true)
no_zero_positive n r e = ⊎_elim
    (λ t. (same_some n r (sym (ap (λ b. if b then Some n else None) t) ∙ e), t))
    (λ f. not_some r (sym (ap (λ b. if b then Some n else None) f) ∙ e))
    (cases_Bool (nat_lt 0 n))

no_zero_row : (n r : ℕ) → fits_32_bits n ≡ true → no_zero (Some n) ≡ Some r → is_row r ≡ true
no_zero_row n r h e =
    let p = no_zero_positive n r e in
    subst (λ k. is_row k ≡ true) p.0 (and_from _ _ p.1 h)

no_zero_number : (z : ℤ) (o : Option ℕ) (r : ℕ) → row_number z ≡ o → no_zero o ≡ Some r → is_row r ≡ true
no_zero_number z None r n e = not_some r e
no_zero_number z (Some m) r n e = no_zero_row m r (row_number_small z m n) e

row_in_row : (t : List ℕ) (i : CellItem) (r : ℕ) → item_has_sizes i ≡ true → row_in t i ≡ Some r → is_row r ≡ true
row_in_row t item.Null r h e = not_some r e
row_in_row t (item.Int n) r h e = no_zero_number n (row_number n) r refl e
row_in_row t (item.Bool b) r h e = not_some r e
row_in_row t (item.Text x) r h e = not_some r e
row_in_row t (item.Date n) r h e = not_some r e
row_in_row t (item.Rec x) r h e = elim (bytes_eq x.table t) as (λ b. (if b then no_zero (Some x.row) else None) ≡ Some r → is_row r ≡ true) [
  | true ↦ λ k. no_zero_row x.row r h k
  | false ↦ λ k. not_some r k
] e

same_rows : (rs qs : List ℕ) → Some rs ≡ Some qs → rs ≡ qs
same_rows rs qs e = ap (λ o. unwrap_or o []) e

with_first_rows : (first : Option ℕ) (more : Option (List ℕ)) (rows : List ℕ) → with_first first more ≡ Some rows → ((r : ℕ) → first ≡ Some r → is_row r ≡ true) → ((rs : List ℕ) → more ≡ Some rs → list_all is_row rs ≡ true) → list_all is_row rows ≡ true
with_first_rows None more rows e one rest = not_some rows e
with_first_rows (Some r) None rows e one rest = not_some rows e
with_first_rows (Some r) (Some rs) rows e one rest =
    subst (λ qs. list_all is_row qs ≡ true) (same_rows (r ∷ rs) rows e) (and_from _ _ (one r refl) (rest rs refl))

-- what the items of a list name are rows
pub rows_in_rows : (t : List ℕ) (is : List CellItem) (rows : List ℕ) → list_all item_has_sizes is ≡ true → rows_in t is ≡ Some rows → list_all is_row rows ≡ true
rows_in_rows t [] rows h e = subst (λ qs. list_all is_row qs ≡ true) (same_rows [] rows e) refl
rows_in_rows t (i ∷ is) rows h e =
    let p = and_parts _ _ h in
    with_first_rows (row_in t i) (rows_in t is) rows e (λ r k. row_in_row t i r p.0 k) (λ rs k. rows_in_rows t is rs p.1 k)

row_in_number : (t : List ℕ) (r : ℕ) → is_row r ≡ true → row_in t (item.Int (pos r)) ≡ Some r
row_in_number t r h =
    let p = and_parts _ _ h in
    ap no_zero (small_row r p.1) ∙ ap (λ b. if b then Some r else None) p.0

-- rows written as items read back
pub rows_in-row_items : (t rows : List ℕ) → list_all is_row rows ≡ true → rows_in t (row_items rows) ≡ Some rows
rows_in-row_items t [] h = refl
rows_in-row_items t (r ∷ rs) h =
    let p = and_parts _ _ h in
    ap (λ o. with_first o (rows_in t (row_items rs))) (row_in_number t r p.0) ∙ ap (with_first (Some r)) (rows_in-row_items t rs p.1)

-- rows without row 0
pub rows_without_zero : (rows : List ℕ) → list_all fits_32_bits rows ≡ true → list_any (λ r. nat_le r 0) rows ≡ false → list_all is_row rows ≡ true
rows_without_zero [] h z = refl
rows_without_zero (r ∷ rs) h z =
    let p = and_parts _ _ h in
    let q = or_parts _ _ z in
    and_from _ _ (and_from _ _ (lt-ltb 0 r (leb-false r 0 q.0)) p.0) (rows_without_zero rs p.1 q.1)
