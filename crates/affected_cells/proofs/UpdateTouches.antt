-- An update touches the cells that it writes, and nothing else.
use Rattle.std.proofs.Common.{ℕ, Bool, true, false, cond, ◌&&◌, ◌||◌, nat_eq, List, [], ◌∷◌, map, ◌≡◌, inl, inr, refl, sym, ap, ◌∙◌, Option, Some, None, unwrap_or}
use Rattle.std.proofs.lemmas.Bool.{true≢false, false≢true}
use Rattle.std.specs.List.{list_any}
use Rattle.std.specs.Option.{option_map}
use Rattle.std.specs.Str.{bytes_eq}
use Rattle.cell_types.specs.declared.cell.CellId.{CellId}
use Rattle.cell_types.specs.declared.cell.Read.TheVariants.{Cell, Key}
use Rattle.cell_types.specs.declared.value.CellValue.{CellValue}
use Rattle.doc_model.specs.declared.action.DocAction.TheVariants.{BulkUpdate}
use Rattle.doc_model.specs.declared.column.CellColumn.{CellColumn}
use Rattle.doc_model.specs.declared.column.ColDef.{ColDef}
use Rattle.doc_model.specs.ByIds.{find_id}
use Rattle.doc_model.specs.Column.{column_id}
use Rattle.doc_model.specs.Document.{Table, Document, table_id, on_grid, with_table}
use Rattle.doc_model.specs.Grid.{cell}
use Rattle.doc_model.specs.Records.{or_else, value_for, given, update_rows}
use Rattle.doc_model.specs.Rows.{has}
use Rattle.doc_model.specs.Readers.{rows_at}
use Rattle.doc_model.proofs.ByIdsLaws.{found_id}
use Rattle.doc_model.proofs.GridLaws.{cell-grid_of}
use Rattle.formula_eval.specs.Reader.{Told, known, no_table, no_row}
use Rattle.recalc.specs.Cells.{cell_of}
use Rattle.affected_cells.proofs.Tests.{or_false}
use Rattle.affected_cells.specs.Affected.{is_fresh_cell}
use Rattle.affected_cells.specs.TouchedRight.{IsSameCell, IsTouchedRight}
use Rattle.recalc.specs.Evaluated.{base_in, base_at, column_in, formula_at, sheet_of}
use Rattle.affected_cells.specs.Touched.{Touch, cells_written, touched_by, touches}

-- a row that is not among the rows has no value
no_value : (rows : List ℕ) (vs : List CellValue) (r : ℕ) → has rows r ≡ false → value_for rows vs r ≡ None
no_value [] vs r h = refl
no_value (q ∷ rows) [] r h = refl
no_value (q ∷ rows) (v ∷ vs) r h =
    let p = or_false (nat_eq q r) (has rows r) h in
    ap (λ o. or_else o (cond (nat_eq q r) (Some v) None)) (no_value rows vs r p.1) ∙ ap (λ b. cond b (Some v) None) p.0

-- a cell that is not written is given nothing
not_given : (t : List ℕ) (rows : List ℕ) (ks : List CellColumn) (d : CellId) → d.table ≡ t
    → list_any (λ (m : Touch). touched_by m (Cell d)) (map (λ (k : CellColumn). cells_written t k.id rows) ks) ≡ false → given rows ks d.column d.row ≡ None
not_given t rows [] d e h = refl
not_given t rows (k ∷ ks) d e h =
    let p = or_false (touched_by (cells_written t k.id rows) (Cell d)) (list_any (λ (m : Touch). touched_by m (Cell d)) (map (λ (k : CellColumn). cells_written t k.id rows) ks)) h in
    ap (λ o. or_else o (cond (bytes_eq k.id d.column) (value_for rows k.values d.row) None)) (not_given t rows ks d e p.1)
    ∙ by_column (bytes_eq k.id d.column) refl p.0
  where
    by_column : (b : Bool) → bytes_eq k.id d.column ≡ b → (bytes_eq d.table t && (bytes_eq d.column k.id && has rows d.row)) ≡ false → cond b (value_for rows k.values d.row) None ≡ None
    by_column false c q = refl
    by_column true c q = no_value rows k.values d.row (third (bytes_eq d.table t) (bytes_eq d.column k.id) (has rows d.row)
        ((Rattle.std.proofs.lemmas.Slice.Eq.bytes_eq-Decides d.table t).1 e)
        ((Rattle.std.proofs.lemmas.Slice.Eq.bytes_eq-Decides d.column k.id).1 (sym ((Rattle.std.proofs.lemmas.Slice.Eq.bytes_eq-Decides k.id d.column).0 c))) q)
      where
        third : (a b c : Bool) → a ≡ true → b ≡ true → (a && (b && c)) ≡ false → c ≡ false
        third true true c p q h = h
        third true false c p q h = absurd (false≢true q)
        third false b c p q h = absurd (false≢true p)

module _ (id : List ℕ) (rows : List ℕ) (ks : List CellColumn) where
  abbrev pub updated : Table → Table
  updated t = cond (bytes_eq t.id id) (on_grid (update_rows column_id rows ks) t) t

  abbrev pub after : Document → Document
  after s = with_table id (on_grid (update_rows column_id rows ks)) s

  pub same_columns : (t : Table) → (updated t).grid.columns ≡ t.grid.columns
  same_columns t = elim (bytes_eq t.id id) as (λ b. (cond b (on_grid (update_rows column_id rows ks) t) t).grid.columns ≡ t.grid.columns) [ true ↦ refl | false ↦ refl ]

  pub same_rows : (t : Table) → (updated t).grid.rows ≡ t.grid.rows
  same_rows t = elim (bytes_eq t.id id) as (λ b. (cond b (on_grid (update_rows column_id rows ks) t) t).grid.rows ≡ t.grid.rows) [ true ↦ refl | false ↦ refl ]

  pub same_id : (t : Table) → (updated t).id ≡ t.id
  same_id t = elim (bytes_eq t.id id) as (λ b. (cond b (on_grid (update_rows column_id rows ks) t) t).id ≡ t.id) [ true ↦ refl | false ↦ refl ]

  pub find_updated : (c : List ℕ) (s : Document) → find_id table_id c (after s) ≡ option_map updated (find_id table_id c s)
  find_updated c [] = refl
  find_updated c (t ∷ s) =
      ap (λ n. cond (bytes_eq n c) (Some (updated t)) (find_id table_id c (after s))) (same_id t)
      ∙ elim (bytes_eq t.id c) as (λ b. cond b (Some (updated t)) (find_id table_id c (after s)) ≡ option_map updated (cond b (Some t) (find_id table_id c s))) [ true ↦ refl | false ↦ find_updated c s ]

  -- columns, rows and formulas are as before
  same_column : (s : Document) (t c : List ℕ) → column_in (after s) t c ≡ column_in s t c
  same_column s t c =
      ap (λ (o : Option Table). elim o as (λ _. Option ColDef) [ None ↦ None | Some u ↦ find_id column_id c u.grid.columns ]) (find_updated t s)
      ∙ elim (find_id table_id t s) as (λ (o : Option Table). elim (option_map updated o) as (λ _. Option ColDef) [ None ↦ None | Some u ↦ find_id column_id c u.grid.columns ] ≡ elim o as (λ _. Option ColDef) [ None ↦ None | Some u ↦ find_id column_id c u.grid.columns ]) [
        | None ↦ refl
        | Some u ↦ ap (find_id column_id c) (same_columns u)
      ]

  same_rows_at : (s : Document) (t : List ℕ) → rows_at (after s) t ≡ rows_at s t
  same_rows_at s t =
      ap (λ (o : Option Table). elim o as (λ _. Option (List ℕ)) [ None ↦ None | Some u ↦ Some u.grid.rows ]) (find_updated t s)
      ∙ elim (find_id table_id t s) as (λ (o : Option Table). elim (option_map updated o) as (λ _. Option (List ℕ)) [ None ↦ None | Some u ↦ Some u.grid.rows ] ≡ elim o as (λ _. Option (List ℕ)) [ None ↦ None | Some u ↦ Some u.grid.rows ]) [
        | None ↦ refl
        | Some u ↦ ap (λ l. Some l) (same_rows u)
      ]

  by_parts : CellId → List ColDef → List ℕ → Option (List ℕ)
  by_parts c ds rs = elim (find_id column_id c.column ds) as (λ _. Option (List ℕ)) [ None ↦ None | Some d ↦ cond (d.info.is_formula && has rs c.row) (Some d.info.formula) None ]

  pub same_formula : (s : Document) (c : CellId) → formula_at (after s) c ≡ formula_at s c
  unfolding by_parts
  same_formula s c =
      ap (λ (o : Option Table). elim o as (λ _. Option (List ℕ)) [ None ↦ None | Some u ↦ by_parts c u.grid.columns u.grid.rows ]) (find_updated c.table s)
      ∙ elim (find_id table_id c.table s) as (λ (o : Option Table). elim (option_map updated o) as (λ _. Option (List ℕ)) [ None ↦ None | Some u ↦ by_parts c u.grid.columns u.grid.rows ] ≡ elim o as (λ _. Option (List ℕ)) [ None ↦ None | Some u ↦ by_parts c u.grid.columns u.grid.rows ]) [
        | None ↦ refl
        | Some u ↦ ap (λ ds. by_parts c ds (updated u).grid.rows) (same_columns u) ∙ ap (by_parts c u.grid.columns) (same_rows u)
      ]

  -- what is read of a cell that is not written is as before
  same_base : (s : Document) (c : CellId) → list_any (λ (m : Touch). touched_by m (Cell c)) (touches s (BulkUpdate id rows ks)) ≡ false → base_at (after s) c ≡ base_at s c
  same_base s c free =
      ap (λ (o : Option Table). elim o as (λ _. Told) [ None ↦ no_table | Some t ↦ base_in t.grid c (find_id column_id c.column t.grid.columns) ]) (find_updated c.table s)
      ∙ by_table (find_id table_id c.table s) refl
    where
      in_cells : (u : Table) → find_id table_id c.table s ≡ Some u → bytes_eq u.id id ≡ true → (d : ColDef) → find_id column_id c.column u.grid.columns ≡ Some d → has u.grid.rows c.row ≡ true
          → cell column_id (update_rows column_id rows ks u.grid) c.column c.row ≡ cell column_id u.grid c.column c.row
      in_cells u at is d found here =
          let name : d.id ≡ c.column = found_id column_id c.column u.grid.columns d found in
          let of : c.table ≡ id = sym (found_id table_id c.table s u at) ∙ (Rattle.std.proofs.lemmas.Slice.Eq.bytes_eq-Decides u.id id).0 is in
          ap (λ n. cell column_id (update_rows column_id rows ks u.grid) n c.row) (sym name)
          ∙ cell-grid_of column_id u.grid.columns u.grid.rows (λ (e : ColDef) r. unwrap_or (given rows ks e.id r) (cell column_id u.grid e.id r)) d c.row (ap (λ n. find_id column_id n u.grid.columns) name ∙ found) here
          ∙ ap (λ o. unwrap_or o (cell column_id u.grid d.id c.row)) (ap (λ n. given rows ks n c.row) name ∙ not_given id rows ks c of free)
          ∙ ap (λ n. cell column_id u.grid n c.row) name

      by_row : (u : Table) → find_id table_id c.table s ≡ Some u → bytes_eq u.id id ≡ true → (d : ColDef) → find_id column_id c.column u.grid.columns ≡ Some d → (b : Bool) → has u.grid.rows c.row ≡ b
          → cond b (known (cell column_id (update_rows column_id rows ks u.grid) c.column c.row)) no_row ≡ cond b (known (cell column_id u.grid c.column c.row)) no_row
      by_row u at is d found true here = ap (λ v. known v) (in_cells u at is d found here)
      by_row u at is d found false here = refl

      by_found : (u : Table) → find_id table_id c.table s ≡ Some u → bytes_eq u.id id ≡ true → (o : Option ColDef) → find_id column_id c.column u.grid.columns ≡ o
          → base_in (update_rows column_id rows ks u.grid) c o ≡ base_in u.grid c o
      by_found u at is None found = refl
      by_found u at is (Some d) found = by_row u at is d found (has u.grid.rows c.row) refl

      by_id : (u : Table) → find_id table_id c.table s ≡ Some u → (b : Bool) → bytes_eq u.id id ≡ b
          → base_in (cond b (on_grid (update_rows column_id rows ks) u) u).grid c (find_id column_id c.column (cond b (on_grid (update_rows column_id rows ks) u) u).grid.columns) ≡ base_in u.grid c (find_id column_id c.column u.grid.columns)
      by_id u at true is = by_found u at is (find_id column_id c.column u.grid.columns) refl
      by_id u at false is = refl

      by_table : (o : Option Table) → find_id table_id c.table s ≡ o
          → elim (option_map updated o) as (λ _. Told) [ None ↦ no_table | Some t ↦ base_in t.grid c (find_id column_id c.column t.grid.columns) ] ≡ elim o as (λ _. Told) [ None ↦ no_table | Some t ↦ base_in t.grid c (find_id column_id c.column t.grid.columns) ]
      by_table None at = refl
      by_table (Some u) at = by_id u at (bytes_eq u.id id) refl

  -- a key column in which nothing is written
  key_free : (u k : List ℕ) (r : ℕ) (ls : List CellColumn) → list_any (λ (m : Touch). touched_by m (Key u k)) (map (λ (l : CellColumn). cells_written id l.id rows) ls) ≡ false
      → list_any (λ (m : Touch). touched_by m (Cell (cell_of u k r))) (map (λ (l : CellColumn). cells_written id l.id rows) ls) ≡ false
  key_free u k r [] h = refl
  key_free u k r (l ∷ ls) h = both (bytes_eq u id) (bytes_eq k l.id) (has rows r) h (key_free u k r ls)
    where
      both : (a b d : Bool) → ((a && b) || list_any (λ (m : Touch). touched_by m (Key u k)) (map (λ (l : CellColumn). cells_written id l.id rows) ls)) ≡ false
          → (list_any (λ (m : Touch). touched_by m (Key u k)) (map (λ (l : CellColumn). cells_written id l.id rows) ls) ≡ false → list_any (λ (m : Touch). touched_by m (Cell (cell_of u k r))) (map (λ (l : CellColumn). cells_written id l.id rows) ls) ≡ false)
          → ((a && (b && d)) || list_any (λ (m : Touch). touched_by m (Cell (cell_of u k r))) (map (λ (l : CellColumn). cells_written id l.id rows) ls)) ≡ false
      both true true d h g = absurd (true≢false h)
      both true false d h g = g h
      both false b d h g = g h

  same_at : (s : Document) (d : CellId) → list_any (λ (m : Touch). touched_by m (Cell d)) (touches s (BulkUpdate id rows ks)) ≡ false
      → IsSameCell (sheet_of s) (sheet_of (after s)) (is_fresh_cell s (BulkUpdate id rows ks)) (λ q. list_any (λ (m : Touch). touched_by m q) (touches s (BulkUpdate id rows ks))) d
  same_at s d free = by_formula (formula_at s d) refl
    where
      by_formula : (o : Option (List ℕ)) → formula_at s d ≡ o → IsSameCell (sheet_of s) (sheet_of (after s)) (is_fresh_cell s (BulkUpdate id rows ks)) (λ q. list_any (λ (m : Touch). touched_by m q) (touches s (BulkUpdate id rows ks))) d
      by_formula None e = inl (e, same_formula s d ∙ e, sym (same_base s d free))
      by_formula (Some f) e = inr (f, e, same_formula s d ∙ e)

  -- an update touches what is said of it, and no more
  pub update_right : (s : Document) → IsTouchedRight (sheet_of s) (sheet_of (after s)) (is_fresh_cell s (BulkUpdate id rows ks)) (λ q. list_any (λ (m : Touch). touched_by m q) (touches s (BulkUpdate id rows ks)))
  update_right s = record {
    was = λ c f e _. sym (same_formula s c) ∙ e;
    kind = λ c f e _. ap (option_map (λ (d : ColDef). d.info.ty)) (sym (same_column s c.table c.column));
    cell = λ d h. (ap (option_map (λ (e : ColDef). e.info.ty)) (sym (same_column s d.table d.column)), same_at s d h);
    key = λ u k h. (ap (option_map (λ (e : ColDef). e.info.ty)) (sym (same_column s u k)), λ r. same_at s (cell_of u k r) (key_free u k r ks h));
    rows = λ u h. sym (same_rows_at s u);
  }
