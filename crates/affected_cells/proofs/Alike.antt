-- Documents that tell the same of what is not touched.
use Rattle.std.proofs.Common.{ℕ, Bool, true, false, cond, ◌&&◌, List, [], ◌∷◌, ◌≡◌, inl, inr, refl, sym, ap, ◌∙◌, subst, Option, Some, None}
use Rattle.std.proofs.lemmas.Slice.Eq.{bytes_eq-Decides}
use Rattle.std.specs.Option.{option_map}
use Rattle.std.specs.Str.{bytes_eq}
use Rattle.cell_types.specs.declared.cell.CellId.{CellId}
use Rattle.cell_types.specs.declared.cell.Read.{Read}
use Rattle.cell_types.specs.declared.cell.Read.TheVariants.{Cell, Key, Rows}
use Rattle.cell_types.specs.declared.column_type.ColType.{ColType}
use Rattle.doc_model.specs.declared.column.ColDef.{ColDef}
use Rattle.doc_model.specs.ByIds.{find_id}
use Rattle.doc_model.specs.Column.{column_id}
use Rattle.doc_model.specs.Document.{Table, Document, table_id, on_grid, with_table}
use Rattle.doc_model.specs.Grid.{Grid, cell}
use Rattle.doc_model.specs.MetadataIds.{tables_id, columns_id, resources_id, rules_id}
use Rattle.doc_model.specs.Rows.{has}
use Rattle.doc_model.specs.Readers.{rows_at}
use Rattle.doc_model.specs.SameRows.{Both, SameRow}
use Rattle.doc_model.specs.Schema.{tables_grid, columns_grid, metadata_table, with_schema}
use Rattle.doc_model.specs.Touched.{AreSameTables}
use Rattle.doc_model.proofs.ByIdsLaws.{found_id}
use Rattle.formula_eval.specs.Reader.{Told, known, no_table, no_row}
use Rattle.recalc.specs.Cells.{cell_of}
use Rattle.affected_cells.specs.TouchedRight.{IsSameCell, IsTouchedRight}
use Rattle.recalc.specs.Evaluated.{base_in, column_in, formula_in, formula_at, sheet_of}
use Rattle.affected_cells.proofs.RowTouches.{formula_column}

-- ---- what a table tells, where there is one

abbrev pub column_of : Option Table → List ℕ → Option ColDef
column_of o k = elim o as (λ _. Option ColDef) [ None ↦ None | Some u ↦ find_id column_id k u.grid.columns ]

abbrev pub kind_of : Option Table → List ℕ → Option ColType
kind_of o k = option_map (λ (d : ColDef). d.info.ty) (column_of o k)

abbrev pub form_of : Option Table → CellId → Option (List ℕ)
form_of o c = elim o as (λ _. Option (List ℕ)) [ None ↦ None | Some u ↦ elim (find_id column_id c.column u.grid.columns) as (λ _. Option (List ℕ)) [ None ↦ None | Some d ↦ formula_in u.grid c.row d ] ]

abbrev pub base_of : Option Table → CellId → Told
base_of o c = elim o as (λ _. Told) [ None ↦ no_table | Some t ↦ base_in t.grid c (find_id column_id c.column t.grid.columns) ]

abbrev pub rows_told : Option Table → Option (List ℕ)
rows_told o = elim o as (λ _. Option (List ℕ)) [ None ↦ None | Some u ↦ Some u.grid.rows ]

-- both tell the same of the cell
abbrev pub IsEqualOf : CellId → Option Table → Option Table → Type 0
IsEqualOf c o p = (kind_of o c.column ≡ kind_of p c.column) × (form_of o c ≡ form_of p c) × (base_of o c ≡ base_of p c)

-- grids that tell the same of a cell
pub grids_equal : (c : CellId) (x y : Table) → find_id column_id c.column y.grid.columns ≡ find_id column_id c.column x.grid.columns → has y.grid.rows c.row ≡ has x.grid.rows c.row
    → ((e : ColDef) → find_id column_id c.column x.grid.columns ≡ Some e → has x.grid.rows c.row ≡ true → cell column_id y.grid c.column c.row ≡ cell column_id x.grid c.column c.row)
    → IsEqualOf c (Some x) (Some y)
grids_equal c x y ec er ev = (
  ap (option_map (λ (d : ColDef). d.info.ty)) (sym ec),
  sym (ap (λ o. told_form o (has y.grid.rows c.row)) ec ∙ ap (told_form (find_id column_id c.column x.grid.columns)) er),
  sym (ap (base_in y.grid c) ec ∙ by_found (find_id column_id c.column x.grid.columns) refl),
)
  where
    told_form : Option ColDef → Bool → Option (List ℕ)
    told_form o b = elim o as (λ _. Option (List ℕ)) [ None ↦ None | Some d ↦ cond (d.info.is_formula && b) (Some d.info.formula) None ]

    by_row : (e : ColDef) → find_id column_id c.column x.grid.columns ≡ Some e → (b : Bool) → has x.grid.rows c.row ≡ b
        → cond b (known (cell column_id y.grid c.column c.row)) no_row ≡ cond b (known (cell column_id x.grid c.column c.row)) no_row
    by_row e at true here = ap (λ w. known w) (ev e at here)
    by_row e at false here = refl

    by_found : (o : Option ColDef) → find_id column_id c.column x.grid.columns ≡ o → base_in y.grid c o ≡ base_in x.grid c o
    by_found None at = refl
    by_found (Some e) at = ap (λ b. cond b (known (cell column_id y.grid c.column c.row)) no_row) er ∙ by_row e at (has x.grid.rows c.row) refl

-- tables that hold the same in the row
pub row_equal : (c : CellId) (x y : Table) → SameRow column_id c.row x.grid y.grid → IsEqualOf c (Some x) (Some y)
row_equal c x y h = grids_equal c x y (ap (find_id column_id c.column) (sym h.columns)) (sym h.rows) (λ e found here.
    let name : e.id ≡ c.column = found_id column_id c.column x.grid.columns e found in
    ap (λ n. cell column_id y.grid n c.row) (sym name)
    ∙ sym (h.cells e (ap (λ n. find_id column_id n x.grid.columns) name ∙ found) here)
    ∙ ap (λ n. cell column_id x.grid n c.row) name)

pub both_equal : (c : CellId) (o p : Option Table) → Both (AreSameTables c.row) o p → IsEqualOf c o p
both_equal c None None h = (refl, refl, refl)
both_equal c None (Some y) h = absurd h
both_equal c (Some x) None h = absurd h
both_equal c (Some x) (Some y) h = row_equal c x y h

-- ---- one table after the other

module _ (P : Option Table → Option Table → Type 0) (itself : (o : Option Table) → P o o) where
  either : (b : Bool) (x y : Table) (o p : Option Table) → (b ≡ true → P (Some x) (Some y)) → P o p → P (cond b (Some x) o) (cond b (Some y) p)
  either true x y o p h k = h refl
  either false x y o p h k = k

  -- of documents whose schema tables describe other plain tables
  pub in_schema : (r u : Grid ColDef) (p q : List Table) (n : List ℕ) → (n ≡ tables_id → P (Some (metadata_table tables_id (tables_grid p))) (Some (metadata_table tables_id (tables_grid q))))
      → (n ≡ columns_id → P (Some (metadata_table columns_id (columns_grid p))) (Some (metadata_table columns_id (columns_grid q))))
      → P (find_id table_id n p) (find_id table_id n q) → P (find_id table_id n (with_schema r u p)) (find_id table_id n (with_schema r u q))
  in_schema r u p q n ht hc hp =
      either (bytes_eq tables_id n) (metadata_table tables_id (tables_grid p)) (metadata_table tables_id (tables_grid q))
      (find_id table_id n (metadata_table columns_id (columns_grid p) ∷ metadata_table resources_id r ∷ metadata_table rules_id u ∷ p))
      (find_id table_id n (metadata_table columns_id (columns_grid q) ∷ metadata_table resources_id r ∷ metadata_table rules_id u ∷ q))
      (λ is. ht (sym ((bytes_eq-Decides tables_id n).0 is)))
      (either (bytes_eq columns_id n) (metadata_table columns_id (columns_grid p)) (metadata_table columns_id (columns_grid q))
      (find_id table_id n (metadata_table resources_id r ∷ metadata_table rules_id u ∷ p)) (find_id table_id n (metadata_table resources_id r ∷ metadata_table rules_id u ∷ q))
      (λ is. hc (sym ((bytes_eq-Decides columns_id n).0 is)))
      (either (bytes_eq resources_id n) (metadata_table resources_id r) (metadata_table resources_id r)
      (find_id table_id n (metadata_table rules_id u ∷ p)) (find_id table_id n (metadata_table rules_id u ∷ q))
      (λ _. itself (Some (metadata_table resources_id r)))
      (either (bytes_eq rules_id n) (metadata_table rules_id u) (metadata_table rules_id u) (find_id table_id n p) (find_id table_id n q)
      (λ _. itself (Some (metadata_table rules_id u))) hp)))

  -- of plain tables of which one is changed
  pub in_plain : (id : List ℕ) (f : Grid ColDef → Grid ColDef) (p : List Table) (n : List ℕ)
      → ((x : Table) → find_id table_id n p ≡ Some x → n ≡ id → P (Some x) (Some (on_grid f x))) → P (find_id table_id n p) (find_id table_id n (with_table id (on_grid f) p))
  in_plain id f p n h = subst (P (find_id table_id n p)) (sym (find_updated p)) (by_found (find_id table_id n p) refl)
    where
      same_id : (t : Table) → (cond (bytes_eq t.id id) (on_grid f t) t).id ≡ t.id
      same_id t = elim (bytes_eq t.id id) as (λ b. (cond b (on_grid f t) t).id ≡ t.id) [ true ↦ refl | false ↦ refl ]

      find_updated : (s : List Table) → find_id table_id n (with_table id (on_grid f) s) ≡ option_map (λ (t : Table). cond (bytes_eq t.id id) (on_grid f t) t) (find_id table_id n s)
      find_updated [] = refl
      find_updated (t ∷ s) =
          ap (λ m. cond (bytes_eq m n) (Some (cond (bytes_eq t.id id) (on_grid f t) t)) (find_id table_id n (with_table id (on_grid f) s))) (same_id t)
          ∙ elim (bytes_eq t.id n) as (λ b. cond b (Some (cond (bytes_eq t.id id) (on_grid f t) t)) (find_id table_id n (with_table id (on_grid f) s)) ≡ option_map (λ (t : Table). cond (bytes_eq t.id id) (on_grid f t) t) (cond b (Some t) (find_id table_id n s))) [ true ↦ refl | false ↦ find_updated s ]

      by_id : (x : Table) → find_id table_id n p ≡ Some x → (b : Bool) → bytes_eq x.id id ≡ b → P (Some x) (Some (cond b (on_grid f x) x))
      by_id x at true is = h x at (sym (found_id table_id n p x at) ∙ (bytes_eq-Decides x.id id).0 is)
      by_id x at false is = itself (Some x)

      by_found : (o : Option Table) → find_id table_id n p ≡ o → P o (option_map (λ (t : Table). cond (bytes_eq t.id id) (on_grid f t) t) o)
      by_found None at = itself None
      by_found (Some x) at = by_id x at (bytes_eq x.id id) refl

-- ---- what is then right

module _ (s t : Document) (fresh : CellId → Bool) (touched : Read → Bool) where
  -- what is not touched tells the same, and a formula cell that is not fresh is in the column that it was in
  pub record IsAlikeBut : Type 0 where
    pub was : (c : CellId) → fresh c ≡ false → (f : List ℕ) × (formula_at s c ≡ Some f)
    pub column : (c : CellId) (d e : ColDef) → fresh c ≡ false → column_in s c.table c.column ≡ Some d → column_in t c.table c.column ≡ Some e → d ≡ e
    pub cell : (c : CellId) → touched (Cell c) ≡ false → IsEqualOf c (find_id table_id c.table s) (find_id table_id c.table t)
    pub key : (u k : List ℕ) (r : ℕ) → touched (Key u k) ≡ false → touched (Cell (cell_of u k r)) ≡ false
    pub rows : (u : List ℕ) → touched (Rows u) ≡ false → rows_at s u ≡ rows_at t u

  same_at : (d : CellId) → IsEqualOf d (find_id table_id d.table s) (find_id table_id d.table t) → IsSameCell (sheet_of s) (sheet_of t) fresh touched d
  same_at d h = by_formula (formula_at s d) refl
    where
      by_formula : (o : Option (List ℕ)) → formula_at s d ≡ o → IsSameCell (sheet_of s) (sheet_of t) fresh touched d
      by_formula None e = inl (e, sym h.1 ∙ e, h.2)
      by_formula (Some f) e = inr (f, e, sym h.1 ∙ e)

  -- a formula cell that is not fresh: its column is the same
  kept_column : IsAlikeBut → (c : CellId) → fresh c ≡ false → (g : List ℕ) → formula_at t c ≡ Some g → column_in s c.table c.column ≡ column_in t c.table c.column
  kept_column h c free g is = let w = h.was c free in by_columns (column_in s c.table c.column) (column_in t c.table c.column) refl refl w.0 (formula_column s c w.0 w.1) (formula_column t c g is)
    where
      by_columns : (o p : Option ColDef) → column_in s c.table c.column ≡ o → column_in t c.table c.column ≡ p → (f : List ℕ) → option_map (λ (d : ColDef). d.info.formula) o ≡ Some f → option_map (λ (d : ColDef). d.info.formula) p ≡ Some g → o ≡ p
      by_columns None p e k f a b = absurd (cc)
      by_columns (Some d) None e k f a b = absurd (cc)
      by_columns (Some d) (Some x) e k f a b = ap (λ y. Some y) (h.column c d x free e k)

  pub alike_right : IsAlikeBut → IsTouchedRight (sheet_of s) (sheet_of t) fresh touched
  alike_right h = record {
    was = λ c f e free. let w = h.was c free in w.1 ∙ sym (formula_column s c w.0 w.1) ∙ ap (option_map (λ (d : ColDef). d.info.formula)) (kept_column h c free f e) ∙ formula_column t c f e;
    kind = λ c f e free. ap (option_map (λ (d : ColDef). d.info.ty)) (kept_column h c free f e);
    cell = λ d free. let e = h.cell d free in (e.0, same_at d e);
    key = λ u k free. ((h.cell (cell_of u k 0) (h.key u k 0 free)).0, λ r. same_at (cell_of u k r) (h.cell (cell_of u k r) (h.key u k r free)));
    rows = h.rows;
  }
