-- A copied table.
use Rattle.std.proofs.Common.{ℕ, Bool, true, false, cond, ◌&&◌, ◌||◌, nat_eq, List, [], ◌∷◌, map, find, length, ◌≡◌, refl, sym, ap, subst, ◌∙◌, Option, Some, None, Bor}
use Rattle.std.specs.Option.{MatchOption, is_some, option_map}
use Rattle.std.specs.Str.{bytes_eq}
use Rattle.cell_types.specs.declared.value.CellValue.{CellValue}
use Rattle.cell_types.specs.declared.value.CellValue.TheVariants.{Null}
use Rattle.doc_model.specs.declared.column.ColDef.{ColDef}
use Rattle.doc_model.specs.ByIds.{find_id, has_id}
use Rattle.doc_model.specs.Column.{column_id}
use Rattle.doc_model.specs.Document.{Table, Document, table_id}
use Rattle.doc_model.specs.Grid.{Grid, IsGrid, beside, cell}
use Rattle.doc_model.specs.LaidOut.{IsLaidOut}
use Rattle.doc_model.specs.MetadataIds.{is_metadata_id}
use Rattle.doc_model.specs.Readers.{cell_at, rows_at}
use Rattle.doc_model.specs.Rows.{has}
use Rattle.doc_model.specs.Schema.{no_grid}
use Rattle.doc_model.specs.Sound.{has_names}
use Rattle.doc_readers.specs.Parts.{grid_at}
use Rattle.doc_model.proofs.ByIdsLaws.{found_all, found_id, has_id-find, has_id-map}
use Rattle.doc_model.proofs.Choices.{length_map, map-map, map_each}
use Rattle.doc_model.proofs.GridLaws.{beside_has, grid_of-cell}
use Rattle.doc_model.proofs.RowsLaws.{each_has}
use Rattle.plain_view.proofs.PartLemmas.{map_every}
use Rattle.table_copies.specs.Copies.{cells_beside, table_of, without_row}
use Rattle.table_copies.specs.declared.columns.CopiedColumn.{CopiedColumn}

abbrev column_in : CopiedColumn → ColDef
column_in c = c.column

-- ---- the copy is the table

module _ (g : Grid ColDef) where
  abbrev cells_in : ColDef → List CellValue
  cells_in d = map (cell column_id g (column_id d)) g.rows

  cells_each : (r : ℕ) → has g.rows r ≡ true → (ds : List ColDef) → map (λ d. beside (λ q. nat_eq q r) g.rows (cells_in d) Null) ds ≡ map (λ d. cell column_id g (column_id d) r) ds
  cells_each r here [] = refl
  cells_each r here (d ∷ ds) =
      ap (λ v. v ∷ map (λ d. beside (λ q. nat_eq q r) g.rows (cells_in d) Null) ds) (beside_has (λ q. cell column_id g (column_id d) q) g.rows Null r here)
      ∙ ap (λ l. cell column_id g (column_id d) r ∷ l) (cells_each r here ds)

  row_beside : (r : ℕ) → has g.rows r ≡ true → (columns : List CopiedColumn) (ds : List ColDef) → map (λ (c : CopiedColumn). c.cells.items) columns ≡ map cells_in ds
      → cells_beside columns g.rows r ≡ map (λ d. cell column_id g (column_id d) r) ds
  row_beside r here columns ds is =
      map-map (λ (vs : List CellValue). beside (λ q. nat_eq q r) g.rows vs Null) (λ (c : CopiedColumn). c.cells.items) columns
      ∙ ap (map (λ (vs : List CellValue). beside (λ q. nat_eq q r) g.rows vs Null)) is
      ∙ sym (map-map (λ (vs : List CellValue). beside (λ q. nat_eq q r) g.rows vs Null) cells_in ds)
      ∙ cells_each r here ds

  -- a grid of copied columns
  grid_copied : IsGrid column_id g → (columns : List CopiedColumn) → map column_in columns ≡ g.columns → map (λ (c : CopiedColumn). c.cells.items) columns ≡ map cells_in g.columns
      → (id : List ℕ) → (table_of id columns g.rows).grid ≡ g
  grid_copied is columns same_columns same_cells id =
      ap (λ ds. let x : Grid ColDef = record { columns = ds; rows = g.rows; cells = map (cells_beside columns g.rows) g.rows } in x) same_columns
      ∙ ap (λ cs. let x : Grid ColDef = record { columns = g.columns; rows = g.rows; cells = cs } in x)
      (map_each (cells_beside columns g.rows) (λ r. map (λ d. cell column_id g (column_id d) r) g.columns) g.rows
      (each_has (λ r. cells_beside columns g.rows r ≡ map (λ d. cell column_id g (column_id d) r) g.columns) g.rows (λ r here. row_beside r here columns g.columns same_cells)))
      ∙ grid_of-cell column_id g is

-- ---- what a copy tells

abbrev value_of : List ℕ → ℕ → CopiedColumn → CellValue
value_of rows r c = beside (λ q. nat_eq q r) rows c.cells.items Null

abbrev pub named : List ℕ → List CopiedColumn → Option CopiedColumn
named k columns = find (λ (c : CopiedColumn). bytes_eq c.column.id k) columns

beside_mapped : {X K V : Type 0} (p : K → Bool) (f : X → K) (h : X → V) (xs : List X) (d : V) (x : X) → find (λ y. p (f y)) xs ≡ Some x → beside p (map f xs) (map h xs) d ≡ h x
beside_mapped p f h [] d x found = absurd (cc)
beside_mapped p f h (y ∷ ys) d x found =
    elim (p (f y)) as (λ b. cond b (Some y) (find (λ y. p (f y)) ys) ≡ Some x → cond b (h y) (beside p (map f ys) (map h ys) d) ≡ h x) [
      | true ↦ λ e. cc
      | false ↦ λ e. beside_mapped p f h ys d x e
    ] found

module _ (id : List ℕ) (columns : List CopiedColumn) (rows : List ℕ) (table k : List ℕ) (r : ℕ) where
  abbrev copy : Table
  copy = table_of id columns rows

  abbrev told : Bool → Option CellValue
  told here = elim (cond here (Some copy) None) as (λ _. Option CellValue) [
    | None ↦ None
    | Some t ↦ cond (has_id column_id t.grid.columns k && has t.grid.rows r) (Some (cell column_id t.grid k r)) None
  ]

  abbrev shown : Bool → Option CellValue
  shown b = cond b (Some (cell column_id copy.grid k r)) None

  other_table : bytes_eq id table ≡ false → cell_at (copy ∷ []) table k r ≡ None
  other_table isnt = ap told isnt

  has_column : (o : Option CopiedColumn) → named k columns ≡ o → has_id column_id copy.grid.columns k ≡ is_some o
  has_column o is = has_id-map column_id column_in columns k ∙ has_id-find (λ (c : CopiedColumn). c.column.id) k columns ∙ ap is_some is

  pub other_column : bytes_eq id table ≡ true → named k columns ≡ None → cell_at (copy ∷ []) table k r ≡ None
  other_column here none = ap told here ∙ ap (λ b. shown (b && has rows r)) (has_column None none)

  both_false : (a b : Bool) → b ≡ false → (a && b) ≡ false
  both_false true b e = e
  both_false false b e = refl

  other_row : bytes_eq id table ≡ true → has rows r ≡ false → cell_at (copy ∷ []) table k r ≡ None
  other_row here none = ap told here ∙ ap shown (both_false (has_id column_id copy.grid.columns k) (has rows r) none)

  cell_told : (c : CopiedColumn) (v : CellValue) → bytes_eq id table ≡ true → named k columns ≡ Some c → has rows r ≡ true → v ≡ value_of rows r c → cell_at (copy ∷ []) table k r ≡ Some v
  cell_told c v here found there is =
      ap told here
      ∙ ap (λ b. shown (b && has rows r)) (has_column (Some c) found)
      ∙ ap shown there
      ∙ ap Some (
      ap (λ vs. beside (λ d. bytes_eq (column_id d) k) copy.grid.columns vs Null) (beside_has (cells_beside columns rows) rows [] r there)
      ∙ beside_mapped (λ d. bytes_eq (column_id d) k) column_in (value_of rows r) columns Null c found
      ∙ sym is)

-- what is told of a copy's cell by the cell beside its row
pub told_by : (t : Table) (id : List ℕ) (columns : List CopiedColumn) (rows table k : List ℕ) (r : ℕ) (c : CopiedColumn) (seen : List ℕ) (cells : List CellValue) (o : Option (Bor CellValue))
    → table_of id columns rows ≡ t → bytes_eq id table ≡ true → named k columns ≡ Some c → seen ≡ rows → cells ≡ c.cells.items
    → MatchOption o (has seen r ≡ false) (λ v. (has seen r ≡ true) × (v.now ≡ beside (λ q. nat_eq q r) seen cells Null))
    → MatchOption o (cell_at (t ∷ []) table k r ≡ None) (λ v. cell_at (t ∷ []) table k r ≡ Some v.now)
told_by t id columns rows table k r c seen cells None at here found same_rows same_cells h =
    subst (λ (u : Table). cell_at (u ∷ []) table k r ≡ None) at (other_row id columns rows table k r here (ap (λ q. has q r) (sym same_rows) ∙ h))
told_by t id columns rows table k r c seen cells (Some v) at here found same_rows same_cells h =
    subst (λ (u : Table). cell_at (u ∷ []) table k r ≡ Some v.now) at
    (cell_told id columns rows table k r c v.now here found (ap (λ q. has q r) (sym same_rows) ∙ h.0)
    (h.1 ∙ ap (λ rs. beside (λ q. nat_eq q r) rs cells Null) same_rows ∙ ap (λ vs. beside (λ q. nat_eq q r) rows vs Null) same_cells))

-- ---- what a copy is

-- each column has a cell for each row
abbrev pub Filled : List CopiedColumn → List ℕ → Type 0
Filled columns rows = map (λ (c : CopiedColumn). length c.cells.items) columns ≡ map (λ (c : CopiedColumn). length rows) columns

pub filled_at : (columns : List CopiedColumn) (rows k : List ℕ) (c : CopiedColumn) → Filled columns rows → named k columns ≡ Some c → length c.cells.items ≡ length rows
filled_at [] rows k c is found = absurd (cc)
filled_at (x ∷ columns) rows k c is found =
    elim (bytes_eq x.column.id k) as (λ b. cond b (Some x) (named k columns) ≡ Some c → length c.cells.items ≡ length rows) [
      | true ↦ λ e. let same : x ≡ c = cc in ap (λ (y : CopiedColumn). length y.cells.items) (sym same) ∙ (let first : length x.cells.items ≡ length rows = cc in first)
      | false ↦ λ e. filled_at columns rows k c (let rest : Filled columns rows = cc in rest) e
    ] found

filled_by : (columns : List CopiedColumn) (rows : List ℕ) (F : ColDef → ℕ → CellValue) (ds : List ColDef) → map (λ (c : CopiedColumn). c.cells.items) columns ≡ map (λ d. map (F d) rows) ds → Filled columns rows
filled_by columns rows F ds is =
    map-map length (λ (c : CopiedColumn). c.cells.items) columns
    ∙ ap (map length) is
    ∙ sym (map-map length (λ d. map (F d) rows) ds)
    ∙ map_every (λ d. length (map (F d) rows)) (λ d. length rows) (λ d. length_map (F d) rows) ds
    ∙ map-map (λ (vs : List CellValue). length rows) (λ d. map (F d) rows) ds
    ∙ ap (map (λ (vs : List CellValue). length rows)) (sym is)
    ∙ sym (map-map (λ (vs : List CellValue). length rows) (λ (c : CopiedColumn). c.cells.items) columns)

-- a table of a document that is laid out, alone
pub laid_out_alone : (s : Document) (id : List ℕ) (t : Table) → IsLaidOut s → find_id table_id id s ≡ Some t → IsLaidOut (without_row t ∷ [])
laid_out_alone s id t laid found = record {
  distinct = (tt, tt);
  grids = (found_all table_id (λ u. IsGrid column_id u.grid) id s t laid.grids found, tt);
  names = (found_all table_id (λ u. (is_metadata_id u.id || has_names u) ≡ true) id s t laid.names found, tt);
}

-- the table that was copied, and what the copy is
pub record Copied (s : Document) (id : List ℕ) (columns : List CopiedColumn) (rows : List ℕ) : Type 0 where
  pub from : option_map without_row (find_id table_id id s) ≡ Some (table_of id columns rows)
  pub laid_out : IsLaidOut (table_of id columns rows ∷ [])
  pub filled : Filled columns rows

module _ (s : Document) (id : List ℕ) (columns : List CopiedColumn) (laid : IsLaidOut s) where
  abbrev Cells : Grid ColDef → List ℕ → Type 0
  Cells g rows = map (λ (c : CopiedColumn). c.cells.items) columns ≡ map (λ (d : ColDef). map (cell column_id g (column_id d)) rows) g.columns

  -- of the table that was found
  copied_of : (t : Table) → find_id table_id id s ≡ Some t → map column_in columns ≡ t.grid.columns → Cells t.grid t.grid.rows → Copied s id columns t.grid.rows
  copied_of t found same_columns same_cells =
      let named_so : t.id ≡ id = found_id table_id id s t found in
      let grid_is : (table_of id columns t.grid.rows).grid ≡ t.grid = grid_copied t.grid (found_all table_id (λ u. IsGrid column_id u.grid) id s t laid.grids found) columns same_columns same_cells id in
      let at : without_row t ≡ table_of id columns t.grid.rows =
      ap (λ i. let u : Table = record { id = i; row = 0; grid = t.grid } in u) named_so ∙ ap (λ g. let u : Table = record { id = id; row = 0; grid = g } in u) (sym grid_is) in
      record {
        from = ap (option_map without_row) found ∙ ap Some at;
        laid_out = subst (λ u. IsLaidOut (u ∷ [])) at (laid_out_alone s id t laid found);
        filled = filled_by columns t.grid.rows (λ d. cell column_id t.grid (column_id d)) t.grid.columns same_cells;
      }

  copied_by : (rows : List ℕ) (o : Option Table) → find_id table_id id s ≡ o → elim o as (λ _. Option (List ℕ)) [ None ↦ None | Some t ↦ Some t.grid.rows ] ≡ Some rows
      → map column_in columns ≡ (elim o as (λ _. Grid ColDef) [ None ↦ no_grid | Some t ↦ t.grid ]).columns → Cells (elim o as (λ _. Grid ColDef) [ None ↦ no_grid | Some t ↦ t.grid ]) rows → Copied s id columns rows
  copied_by rows None found told same_columns same_cells = absurd (cc)
  copied_by rows (Some t) found told same_columns same_cells =
      let same : t.grid.rows ≡ rows = cc in
      subst (Copied s id columns) same (copied_of t found same_columns (subst (Cells t.grid) (sym same) same_cells))

  pub copied : (rows : List ℕ) → rows_at s id ≡ Some rows → map column_in columns ≡ (grid_at s id).columns → Cells (grid_at s id) rows → Copied s id columns rows
  copied rows told same_columns same_cells = copied_by rows (find_id table_id id s) refl told same_columns same_cells

pub not_told : (s : Document) (id : List ℕ) → rows_at s id ≡ None → find_id table_id id s ≡ None
not_told s id h =
    elim (find_id table_id id s) as (λ (o : Option Table). elim o as (λ _. Option (List ℕ)) [ None ↦ None | Some t ↦ Some t.grid.rows ] ≡ None → o ≡ None) [
      | None ↦ λ _. refl
      | Some t ↦ λ e. absurd (cc)
    ] h
