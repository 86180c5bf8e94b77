-- A change of the rows and cells of one table touches what is said of it, and nothing else.
use Rattle.std.proofs.Common.{ℕ, Bool, true, false, cond, not, ◌&&◌, ◌||◌, List, [], ◌∷◌, ◌≡◌, inl, inr, refl, sym, ap, ◌∙◌, subst, Option, Some, None, unwrap_or}
use Rattle.std.proofs.lemmas.Bool.{true≢false, false≢true}
use Rattle.std.proofs.lemmas.Slice.Eq.{bytes_eq-Decides}
use Rattle.std.specs.List.{list_any}
use Rattle.std.specs.Option.{option_map}
use Rattle.std.specs.Str.{bytes_eq}
use Rattle.cell_types.specs.declared.cell.CellId.{CellId}
use Rattle.cell_types.specs.declared.cell.Read.{Read}
use Rattle.cell_types.specs.declared.cell.Read.TheVariants.{Cell, Key, Rows}
use Rattle.cell_types.specs.declared.value.CellValue.{CellValue}
use Rattle.doc_model.specs.declared.column.CellColumn.{CellColumn}
use Rattle.doc_model.specs.declared.column.ColDef.{ColDef}
use Rattle.doc_model.specs.ByIds.{find_id}
use Rattle.doc_model.specs.Column.{column_id, start_of}
use Rattle.doc_model.specs.Document.{Table, Document, table_id, on_grid, with_table}
use Rattle.doc_model.specs.Grid.{Grid, cell, grid_of}
use Rattle.doc_model.specs.Records.{given, add_rows, remove_rows}
use Rattle.doc_model.specs.Rows.{has, insert_rows, without}
use Rattle.doc_model.specs.Readers.{rows_at}
use Rattle.doc_model.proofs.ByIdsLaws.{found_id}
use Rattle.doc_model.proofs.GridLaws.{cell-grid_of}
use Rattle.doc_model.proofs.RowsLaws.{has-insert_rows, has-filter}
use Rattle.formula_eval.specs.Reader.{known, no_table, no_row}
use Rattle.recalc.specs.Cells.{cell_of}
use Rattle.affected_cells.specs.TouchedRight.{IsSameCell, IsTouchedRight}
use Rattle.recalc.specs.Evaluated.{base_in, base_at, column_in, formula_in, formula_at, sheet_of}
use Rattle.affected_cells.specs.Touched.{Touch, rows_come_or_go, touched_by}

-- the formula of a cell is that of its column
pub formula_column : (s : Document) (c : CellId) (f : List ℕ) → formula_at s c ≡ Some f → option_map (λ (d : ColDef). d.info.formula) (column_in s c.table c.column) ≡ Some f
formula_column s c f = by_table (find_id table_id c.table s)
  where
    by_flag : (b : Bool) (d : ColDef) → cond b (Some d.info.formula) None ≡ Some f → ◌≡◌ {A = Option (List ℕ)} (Some d.info.formula) (Some f)
    by_flag true d e = e
    by_flag false d e = absurd (cc)

    by_column : (g : Grid ColDef) (o : Option ColDef) → elim o as (λ _. Option (List ℕ)) [ None ↦ None | Some d ↦ formula_in g c.row d ] ≡ Some f → option_map (λ (d : ColDef). d.info.formula) o ≡ Some f
    by_column g None e = absurd (cc)
    by_column g (Some d) e = by_flag (d.info.is_formula && has g.rows c.row) d e

    by_table : (o : Option Table) → elim o as (λ _. Option (List ℕ)) [ None ↦ None | Some u ↦ elim (find_id column_id c.column u.grid.columns) as (λ _. Option (List ℕ)) [ None ↦ None | Some d ↦ formula_in u.grid c.row d ] ] ≡ Some f
        → option_map (λ (d : ColDef). d.info.formula) (elim o as (λ _. Option ColDef) [ None ↦ None | Some u ↦ find_id column_id c.column u.grid.columns ]) ≡ Some f
    by_table None e = absurd (cc)
    by_table (Some u) e = by_column u.grid (find_id column_id c.column u.grid.columns) e

-- a table's rows become R of them, and its cells v
module _ (id : List ℕ) (R : List ℕ → List ℕ) (v : Grid ColDef → ColDef → ℕ → CellValue) (touched : Read → Bool)
    (keeps_rows : touched (Rows id) ≡ false → (rs : List ℕ) → R rs ≡ rs)
    (keeps_has : (d : CellId) → d.table ≡ id → touched (Cell d) ≡ false → (rs : List ℕ) → has (R rs) d.row ≡ has rs d.row)
    (keeps_cell : (g : Grid ColDef) (e : ColDef) (d : CellId) → d.table ≡ id → touched (Cell d) ≡ false → e.id ≡ d.column → v g e d.row ≡ cell column_id g e.id d.row)
    (keeps_key : (u k : List ℕ) (r : ℕ) → touched (Key u k) ≡ false → touched (Cell (cell_of u k r)) ≡ false) where
  abbrev changed : Grid ColDef → Grid ColDef
  changed g = grid_of g.columns (R g.rows) (v g)

  abbrev updated : Table → Table
  updated t = cond (bytes_eq t.id id) (on_grid changed t) t

  abbrev after : Document → Document
  after s = with_table id (on_grid changed) s

  same_columns : (t : Table) → (updated t).grid.columns ≡ t.grid.columns
  same_columns t = elim (bytes_eq t.id id) as (λ b. (cond b (on_grid changed t) t).grid.columns ≡ t.grid.columns) [ true ↦ refl | false ↦ refl ]

  same_id : (t : Table) → (updated t).id ≡ t.id
  same_id t = elim (bytes_eq t.id id) as (λ b. (cond b (on_grid changed t) t).id ≡ t.id) [ true ↦ refl | false ↦ refl ]

  find_updated : (c : List ℕ) (s : Document) → find_id table_id c (after s) ≡ option_map updated (find_id table_id c s)
  find_updated c [] = refl
  find_updated c (t ∷ s) =
      ap (λ n. cond (bytes_eq n c) (Some (updated t)) (find_id table_id c (after s))) (same_id t)
      ∙ elim (bytes_eq t.id c) as (λ b. cond b (Some (updated t)) (find_id table_id c (after s)) ≡ option_map updated (cond b (Some t) (find_id table_id c s))) [ true ↦ refl | false ↦ find_updated c s ]

  -- columns are as before
  same_column : (s : Document) (t c : List ℕ) → column_in (after s) t c ≡ column_in s t c
  same_column s t c =
      ap (λ (o : Option Table). elim o as (λ _. Option ColDef) [ None ↦ None | Some u ↦ find_id column_id c u.grid.columns ]) (find_updated t s)
      ∙ elim (find_id table_id t s) as (λ (o : Option Table). elim (option_map updated o) as (λ _. Option ColDef) [ None ↦ None | Some u ↦ find_id column_id c u.grid.columns ] ≡ elim o as (λ _. Option ColDef) [ None ↦ None | Some u ↦ find_id column_id c u.grid.columns ]) [
        | None ↦ refl
        | Some u ↦ ap (find_id column_id c) (same_columns u)
      ]

  -- what is read of a table that is found, where it reads the same of the changed table
  found_same : {X : Type 0} (s : Document) (t : List ℕ) (n : X) (f : Grid ColDef → X) → (t ≡ id → (u : Table) → f (changed u.grid) ≡ f u.grid)
      → elim (find_id table_id t (after s)) as (λ _. X) [ None ↦ n | Some u ↦ f u.grid ] ≡ elim (find_id table_id t s) as (λ _. X) [ None ↦ n | Some u ↦ f u.grid ]
  found_same {X} s t n f h =
      ap (λ (o : Option Table). elim o as (λ _. X) [ None ↦ n | Some u ↦ f u.grid ]) (find_updated t s)
      ∙ by_table (find_id table_id t s) refl
    where
      by_id : (u : Table) → u.id ≡ t → (b : Bool) → bytes_eq u.id id ≡ b → f (cond b (on_grid changed u) u).grid ≡ f u.grid
      by_id u at true is = h (sym at ∙ (bytes_eq-Decides u.id id).0 is) u
      by_id u at false is = refl

      by_table : (o : Option Table) → find_id table_id t s ≡ o
          → elim (option_map updated o) as (λ _. X) [ None ↦ n | Some u ↦ f u.grid ] ≡ elim o as (λ _. X) [ None ↦ n | Some u ↦ f u.grid ]
      by_table None at = refl
      by_table (Some u) at = by_id u (found_id table_id t s u at) (bytes_eq u.id id) refl

  same_rows_at : (s : Document) (t : List ℕ) → touched (Rows t) ≡ false → rows_at (after s) t ≡ rows_at s t
  same_rows_at s t free = found_same s t None (λ g. Some g.rows) (λ e u. ap (λ l. Some l) (keeps_rows (subst (λ n. touched (Rows n) ≡ false) e free) u.grid.rows))

  same_formula : (s : Document) (c : CellId) → touched (Cell c) ≡ false → formula_at (after s) c ≡ formula_at s c
  same_formula s c free = found_same s c.table None (λ g. elim (find_id column_id c.column g.columns) as (λ _. Option (List ℕ)) [ None ↦ None | Some d ↦ formula_in g c.row d ]) (λ e u.
      ap (λ b. elim (find_id column_id c.column u.grid.columns) as (λ _. Option (List ℕ)) [ None ↦ None | Some d ↦ cond (d.info.is_formula && b) (Some d.info.formula) None ]) (keeps_has c e free u.grid.rows))

  same_base : (s : Document) (c : CellId) → touched (Cell c) ≡ false → base_at (after s) c ≡ base_at s c
  same_base s c free = found_same s c.table no_table (λ g. base_in g c (find_id column_id c.column g.columns)) (λ e u. by_found e u.grid (find_id column_id c.column u.grid.columns) refl)
    where
      in_cells : c.table ≡ id → (g : Grid ColDef) (d : ColDef) → find_id column_id c.column g.columns ≡ Some d → has (R g.rows) c.row ≡ true
          → cell column_id (changed g) c.column c.row ≡ cell column_id g c.column c.row
      in_cells of g d found here =
          let name : d.id ≡ c.column = found_id column_id c.column g.columns d found in
          ap (λ n. cell column_id (changed g) n c.row) (sym name)
          ∙ cell-grid_of column_id g.columns (R g.rows) (v g) d c.row (ap (λ n. find_id column_id n g.columns) name ∙ found) here
          ∙ keeps_cell g d c of free name
          ∙ ap (λ n. cell column_id g n c.row) name

      by_row : c.table ≡ id → (g : Grid ColDef) (d : ColDef) → find_id column_id c.column g.columns ≡ Some d → (b : Bool) → has (R g.rows) c.row ≡ b
          → cond b (known (cell column_id (changed g) c.column c.row)) no_row ≡ cond b (known (cell column_id g c.column c.row)) no_row
      by_row of g d found true here = ap (λ w. known w) (in_cells of g d found here)
      by_row of g d found false here = refl

      by_found : c.table ≡ id → (g : Grid ColDef) (o : Option ColDef) → find_id column_id c.column g.columns ≡ o → base_in (changed g) c o ≡ base_in g c o
      by_found of g None found = refl
      by_found of g (Some d) found = by_row of g d found (has (R g.rows) c.row) refl ∙ ap (λ b. cond b (known (cell column_id g c.column c.row)) no_row) (keeps_has c of free g.rows)

  module _ (s : Document) (fresh : CellId → Bool) (was_formula : (c : CellId) → fresh c ≡ false → (f : List ℕ) × (formula_at s c ≡ Some f)) where
    same_at : (d : CellId) → touched (Cell d) ≡ false → IsSameCell (sheet_of s) (sheet_of (after s)) fresh touched d
    same_at d free = by_formula (formula_at s d) refl
      where
        by_formula : (o : Option (List ℕ)) → formula_at s d ≡ o → IsSameCell (sheet_of s) (sheet_of (after s)) fresh touched d
        by_formula None e = inl (e, same_formula s d free ∙ e, sym (same_base s d free))
        by_formula (Some f) e = inr (f, e, same_formula s d free ∙ e)

    pub table_right : IsTouchedRight (sheet_of s) (sheet_of (after s)) fresh touched
    table_right = record {
      was = λ c f e h. let w = was_formula c h in w.1 ∙ sym (formula_column s c w.0 w.1) ∙ ap (option_map (λ (d : ColDef). d.info.formula)) (sym (same_column s c.table c.column)) ∙ formula_column (after s) c f e;
      kind = λ c f e _. ap (option_map (λ (d : ColDef). d.info.ty)) (sym (same_column s c.table c.column));
      cell = λ d h. (ap (option_map (λ (e : ColDef). e.info.ty)) (sym (same_column s d.table d.column)), same_at d h);
      key = λ u k h. (ap (option_map (λ (e : ColDef). e.info.ty)) (sym (same_column s u k)), λ r. same_at (cell_of u k r) (keeps_key u k r h));
      rows = λ u h. sym (same_rows_at s u h);
    }

-- ---- rows that come or go

module _ (id rows : List ℕ) where
  abbrev pub came : Read → Bool
  came q = list_any (λ (m : Touch). touched_by m q) (rows_come_or_go id rows ∷ [])

  apart : (a b : Bool) → ((a && b) || false) ≡ false → a ≡ true → b ≡ false
  apart true true h e = absurd (true≢false h)
  apart true false h e = refl
  apart false b h e = absurd (false≢true e)

  not_among : (d : CellId) → d.table ≡ id → came (Cell d) ≡ false → has rows d.row ≡ false
  not_among d of free = apart (bytes_eq d.table id) (has rows d.row) free ((bytes_eq-Decides d.table id).1 of)

  no_rows : came (Rows id) ≡ false → ⊥
  no_rows free = alone (bytes_eq id id) free ((bytes_eq-Decides id id).1 refl)
    where
      alone : (a : Bool) → (a || false) ≡ false → a ≡ true → ⊥
      alone true h e = true≢false h
      alone false h e = false≢true e

  key_cells : (u k : List ℕ) (r : ℕ) → came (Key u k) ≡ false → came (Cell (cell_of u k r)) ≡ false
  key_cells u k r h = each (bytes_eq u id) (has rows r) h
    where
      each : (a b : Bool) → (a || false) ≡ false → ((a && b) || false) ≡ false
      each true b h = absurd (true≢false h)
      each false b h = refl

  pub added_right : (ks : List CellColumn) (s : Document) (fresh : CellId → Bool) → ((c : CellId) → fresh c ≡ false → (f : List ℕ) × (formula_at s c ≡ Some f))
      → IsTouchedRight (sheet_of s) (sheet_of (with_table id (on_grid (add_rows column_id start_of rows ks)) s)) fresh came
  added_right ks s fresh was = table_right id (insert_rows rows)
      (λ g d r. cond (has rows r) (unwrap_or (given rows ks d.id r) (start_of d)) (cell column_id g d.id r)) came
      (λ free rs. absurd (no_rows free))
      (λ d of free rs. has-insert_rows rows rs d.row ∙ ap (λ b. b || has rs d.row) (not_among d of free))
      (λ g e d of free name. ap (λ b. cond b (unwrap_or (given rows ks e.id d.row) (start_of e)) (cell column_id g e.id d.row)) (not_among d of free))
      key_cells s fresh was

  pub removed_right : (s : Document) (fresh : CellId → Bool) → ((c : CellId) → fresh c ≡ false → (f : List ℕ) × (formula_at s c ≡ Some f))
      → IsTouchedRight (sheet_of s) (sheet_of (with_table id (on_grid (remove_rows column_id rows)) s)) fresh came
  removed_right s fresh was = table_right id (without rows)
      (λ g d r. cell column_id g d.id r) came
      (λ free rs. absurd (no_rows free))
      (λ d of free rs. has-filter (λ r. not (has rows r)) rs d.row ∙ ap (λ b. not b && has rs d.row) (not_among d of free))
      (λ g e d of free name. refl)
      key_cells s fresh was

-- ---- no rows

pub none_gone : (rs : List ℕ) → without [] rs ≡ rs
none_gone [] = refl
none_gone (r ∷ rs) = ap (λ l. r ∷ l) (none_gone rs)

module _ (id : List ℕ) where
  abbrev pub untouched : Read → Bool
  untouched q = false

  pub none_added : (ks : List CellColumn) (s : Document) (fresh : CellId → Bool) → ((c : CellId) → fresh c ≡ false → (f : List ℕ) × (formula_at s c ≡ Some f))
      → IsTouchedRight (sheet_of s) (sheet_of (with_table id (on_grid (add_rows column_id start_of [] ks)) s)) fresh untouched
  none_added ks s fresh was = table_right id (insert_rows [])
      (λ g d r. cond (has [] r) (unwrap_or (given [] ks d.id r) (start_of d)) (cell column_id g d.id r)) untouched
      (λ free rs. refl) (λ d of free rs. refl) (λ g e d of free name. refl) (λ u k r h. refl) s fresh was

  pub none_removed : (s : Document) (fresh : CellId → Bool) → ((c : CellId) → fresh c ≡ false → (f : List ℕ) × (formula_at s c ≡ Some f))
      → IsTouchedRight (sheet_of s) (sheet_of (with_table id (on_grid (remove_rows column_id [])) s)) fresh untouched
  none_removed s fresh was = table_right id (without [])
      (λ g d r. cell column_id g d.id r) untouched
      (λ free rs. none_gone rs) (λ d of free rs. ap (λ l. has l d.row) (none_gone rs)) (λ g e d of free name. refl) (λ u k r h. refl) s fresh was
