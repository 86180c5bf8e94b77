-- The value at the index of a column is the value beside its id.
use Rattle.std.proofs.Common.{ℕ, suc, ◌+◌, Bool, true, false, cond, not, ◌&&◌, List, [], ◌∷◌, ◌≡◌, ◌<◌, ◌≤◌, length, get_or, refl, ap, ◌∙◌, Option, Some, None, arith, ltb, map, filter, Result, Ok, Err, IfOk}
use Rattle.std.proofs.lemmas.Bool.{ltb-true, ltb-false, lt-ltb, le-ltb}
use Rattle.std.proofs.lemmas.List.{get_or_past}
use Rattle.std.specs.List.{position, position_or_len}
use Rattle.std.specs.Str.{bytes_eq}
use Rattle.cell_types.specs.declared.value.CellValue.{CellValue}
use Rattle.cell_types.specs.declared.value.CellValue.TheVariants.{Null}
use Rattle.doc_model.specs.declared.column.CellColumn.{CellColumn}
use Rattle.doc_model.specs.declared.view.ViewCol.{ViewCol}
use Rattle.doc_model.specs.Grid.{Grid, beside, cell}
use Rattle.doc_model.specs.Records.{column_of}
use Rattle.doc_model.specs.Rows.{has}
use Rattle.doc_model.specs.Same.{same_value}
use Rattle.doc_model.specs.ViewEdits.{shown_id, shown_start}
use Rattle.plain_view.specs.Cells.{column_index, row_cells, value_in}
use Rattle.plain_view.specs.declared.records.Indexes.{Indexes}
use Rattle.plain_view.specs.Steps.{is_told}
use Rattle.plain_view.specs.Told.{is_told_at}

none_in : (index : Option ℕ) (other : CellValue) → value_in [] index other ≡ other
none_in None other = refl
none_in (Some index) other = get_or_past [] index other (omega arith)

first_in : (v : CellValue) (vs : List CellValue) (n : ℕ) (other : CellValue) → value_in (v ∷ vs) (cond (ltb 0 (suc n)) (Some 0) None) other ≡ v
first_in v vs n other = ap (λ b. value_in (v ∷ vs) (cond b (Some 0) None) other) (lt-ltb 0 (suc n) (omega arith))

later_in : (v : CellValue) (vs : List CellValue) (m n k : ℕ) (other : CellValue) → k ≡ suc m → value_in (v ∷ vs) (cond (ltb k (suc n)) (Some k) None) other ≡ value_in vs (cond (ltb m n) (Some m) None) other
later_in v vs m n k other e =
    elim (ltb m n) as (λ b. ltb m n ≡ b → value_in (v ∷ vs) (cond (ltb k (suc n)) (Some k) None) other ≡ value_in vs (cond b (Some m) None) other) [
      | true ↦ λ is. let lt : m < n = ltb-true m n is in
          ap (λ b. value_in (v ∷ vs) (cond b (Some k) None) other) (lt-ltb k (suc n) (omega (arith, lt, e))) ∙ ap (λ p. get_or (v ∷ vs) p other) e
      | false ↦ λ is. let le : n ≤ m = ltb-false m n is in ap (λ b. value_in (v ∷ vs) (cond b (Some k) None) other) (le-ltb k (suc n) (omega (arith, le, e)))
    ] refl

pub beside_index : {K : Type 0} (test : K → Bool) (ks : List K) (vs : List CellValue) (other : CellValue) → value_in vs (position test ks) other ≡ beside test ks vs other
beside_index test [] vs other = refl
beside_index test (k ∷ ks) [] other = none_in (position test (k ∷ ks)) other
beside_index {K} test (k ∷ ks) (v ∷ vs) other =
    elim (test k) as (λ b. value_in (v ∷ vs) (cond (ltb (cond (not b) (1 + position_or_len test ks) 0) (length (k ∷ ks))) (Some (cond (not b) (1 + position_or_len test ks) 0)) None) other ≡ cond b v (beside test ks vs other)) [
      | true ↦ first_in v vs (length ks) other
      | false ↦ later_in v vs (position_or_len test ks) (length ks) (1 + position_or_len test ks) other (omega arith) ∙ beside_index test ks vs other
    ]

-- a cell by the index of its column
pub cell_index : (g : Grid ViewCol) (c : List ℕ) (index : Option ℕ) (r : ℕ) → index ≡ column_index g.columns c → value_in (row_cells g r) index Null ≡ cell shown_id g c r
cell_index g c index r e = ap (λ p. value_in (row_cells g r) p Null) e ∙ beside_index (λ (d : ViewCol). bytes_eq d.id c) g.columns (row_cells g r) Null

-- whether a cell is told, by the indexes of its column
pub told_at : (g w : Grid ViewCol) (d : ViewCol) (before after : Option ℕ) (start : CellValue) (r : ℕ) → before ≡ column_index g.columns d.id → after ≡ column_index w.columns d.id → start ≡ shown_start d
    → (has g.rows r && not (same_value (value_in (row_cells g r) before start) (value_in (row_cells w r) after Null))) ≡ is_told g w d r
told_at g w d before after start r eb ea es =
    ap (λ v. has g.rows r && not (same_value v (value_in (row_cells w r) after Null)))
    (ap (λ p. value_in (row_cells g r) p start) eb ∙ ap (λ v. value_in (row_cells g r) (column_index g.columns d.id) v) es ∙ beside_index (λ (e : ViewCol). bytes_eq e.id d.id) g.columns (row_cells g r) (shown_start d))
    ∙ ap (λ v. has g.rows r && not (same_value (beside (λ (e : ViewCol). bytes_eq e.id d.id) g.columns (row_cells g r) (shown_start d)) v)) (cell_index w d.id after r ea)

-- the rows in which cells are told, by the indexes of their column
pub rows_told_at : {E : Type 0} (r : Result (List ℕ) E) (g w : Grid ViewCol) (d : ViewCol) (indexes : Indexes) (rows : List ℕ)
    → indexes.before ≡ column_index g.columns d.id → indexes.after ≡ column_index w.columns d.id → indexes.start ≡ shown_start d
    → IfOk r (λ l. l ≡ filter (is_told_at g w indexes) rows) → IfOk r (λ l. l ≡ filter (is_told g w d) rows)
rows_told_at (Ok l) g w d indexes rows eb ea es e =
    e ∙ (λ i. filter (λ r. told_at g w d indexes.before indexes.after indexes.start r eb ea es i) rows)
rows_told_at (Err x) g w d indexes rows eb ea es e = tt

-- a column, by its index
pub column_at_index : (g : Grid ViewCol) (rows id name : List ℕ) (index : Option ℕ) (values : List CellValue) → index ≡ column_index g.columns id → name ≡ id
    → values ≡ map (λ r. value_in (row_cells g r) index Null) rows → ◌≡◌ {A = CellColumn} (record { id = name; values = values }) (column_of shown_id g rows id)
column_at_index g rows id name index values at named e = λ i. record { id = named i; values = (e ∙ (λ j. map (λ r. cell_index g id index r at j) rows)) i }
