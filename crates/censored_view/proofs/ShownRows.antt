-- Tables as they are shown: which rows and cells they have, and that equal rows are shown alike.
use Rattle.std.proofs.Common.{ℕ, Bool, true, false, cond, ◌&&◌, List, [], ◌∷◌, map, filter, ◌≡◌, refl, sym, ap, subst, ◌∙◌, Option, Some, None, Bor}
use Rattle.std.proofs.lemmas.Bool.{and_parts}
use Rattle.std.specs.Option.{MatchOption}
use Rattle.cell_types.specs.declared.value.CellValue.{CellValue}
use Rattle.doc_model.specs.declared.column.ColDef.{ColDef}
use Rattle.doc_model.specs.declared.view.ViewCol.{ViewCol}
use Rattle.doc_model.specs.declared.view.ViewTable.{ViewTable}
use Rattle.doc_model.specs.ByIds.{find_id, has_id}
use Rattle.doc_model.specs.Changes.{grid}
use Rattle.doc_model.specs.Column.{column_id}
use Rattle.doc_model.specs.Document.{Document, Table, table_id}
use Rattle.doc_model.specs.Grid.{Grid, cell, grid_of}
use Rattle.doc_model.specs.Readers.{cell_at}
use Rattle.doc_model.specs.Rows.{has, IsAscending}
use Rattle.doc_model.specs.SameRows.{SameRow}
use Rattle.doc_model.specs.Schema.{no_grid}
use Rattle.doc_model.specs.ViewEdits.{shown_id, IsShown}
use Rattle.doc_model.proofs.ByIdsLaws.{AreDistinct-IsByIds, IsByIds-by_id, found_has, found_id}
use Rattle.doc_model.proofs.GridLaws.{cell-grid_of, IsGrid-grid_of}
use Rattle.doc_model.proofs.RowsLaws.{has-filter, IsAscending-filter}
use Rattle.doc_readers.specs.Parts.{grid_at}
use Rattle.acl_formula.specs.RuleRow.{RuleRow}
use Rattle.censored_view.specs.Readable.{Readable, row_of}
use Rattle.censored_view.specs.View.{is_row_shown, shown_column, shown_columns, shown_rows, shown_value}
use mathlib.Core.Path.{fun_ext}

-- ---- a row as a document tells it

pub cell_of_row : (s : Document) (t c : List ℕ) (r : ℕ) → cell_at s t c r ≡ (row_of (grid_at s t) r).cell c
cell_of_row s t c r =
    elim (find_id table_id t s) as (λ (o : Option Table). elim o as (λ _. Option CellValue) [ None ↦ None | Some t ↦ cond (has_id column_id t.grid.columns c && has t.grid.rows r) (Some (cell column_id t.grid c r)) None ]
    ≡ (row_of (elim o as (λ _. Grid ColDef) [ None ↦ no_grid | Some t ↦ t.grid ]) r).cell c) [
      | None ↦ refl
      | Some t ↦ refl
    ]

pub cell_told : (s : Document) (t c : List ℕ) (r : ℕ) (o : Option (Bor CellValue)) → MatchOption o (cell_at s t c r ≡ None) (λ value. cell_at s t c r ≡ Some value.now)
    → MatchOption o ((row_of (grid_at s t) r).cell c ≡ None) (λ value. (row_of (grid_at s t) r).cell c ≡ Some value.now)
cell_told s t c r o told = subst (λ p. MatchOption o (p ≡ None) (λ value. p ≡ Some value.now)) (cell_of_row s t c r) told

-- ---- rows that are made of row ids

pub ids_made : (p : RuleRow → Bool) (g : Grid ColDef) (rs : List ℕ) → map (λ (w : RuleRow). w.id) (filter p (map (row_of g) rs)) ≡ filter (λ r. p (row_of g r)) rs
ids_made p g [] = refl
ids_made p g (r ∷ rs) =
    elim (p (row_of g r)) as (λ b. map (λ (w : RuleRow). w.id) (cond b (row_of g r ∷ filter p (map (row_of g) rs)) (filter p (map (row_of g) rs))) ≡ cond b (r ∷ filter (λ r. p (row_of g r)) rs) (filter (λ r. p (row_of g r)) rs)) [
      | true ↦ ap (λ l. r ∷ l) (ids_made p g rs)
      | false ↦ ids_made p g rs
    ]

pub made_of : {Y : Type 0} (p : RuleRow → Bool) (f : RuleRow → Y) (g : Grid ColDef) (rs : List ℕ) → map f (filter p (map (row_of g) rs)) ≡ map (λ r. f (row_of g r)) (filter (λ r. p (row_of g r)) rs)
made_of p f g [] = refl
made_of p f g (r ∷ rs) =
    elim (p (row_of g r)) as (λ b. map f (cond b (row_of g r ∷ filter p (map (row_of g) rs)) (filter p (map (row_of g) rs))) ≡ map (λ r. f (row_of g r)) (cond b (r ∷ filter (λ r. p (row_of g r)) rs) (filter (λ r. p (row_of g r)) rs))) [
      | true ↦ ap (λ l. f (row_of g r) ∷ l) (made_of p f g rs)
      | false ↦ made_of p f g rs
    ]

-- ---- a shown table is a grid of what its rows give

module _ (x : Readable) (g : Grid ColDef) (rs : List ℕ) where
  abbrev pub its_columns : List ViewCol
  its_columns = shown_columns x g.columns

  abbrev pub its_rows : List ℕ
  its_rows = filter (λ r. is_row_shown x its_columns (row_of g r)) rs

  abbrev pub its_cell : ViewCol → ℕ → CellValue
  its_cell d r = shown_value x (row_of g r) d

  abbrev pub its_grid : Grid ViewCol
  its_grid = grid_of its_columns its_rows its_cell

  -- the table of an id, made of these rows
  abbrev pub shown_of : List ℕ → ViewTable
  shown_of id = shown_rows x id its_columns (map (row_of g) rs)

  pub shown_grid : (id : List ℕ) → grid (shown_of id) ≡ its_grid
  shown_grid id =
      ap (λ shown. let h : Grid ViewCol = record { columns = its_columns; rows = shown; cells = map (λ w. map (shown_value x w) its_columns) (filter (is_row_shown x its_columns) (map (row_of g) rs)) } in h)
      (ids_made (is_row_shown x its_columns) g rs)
      ∙ ap (λ cs. let h : Grid ViewCol = record { columns = its_columns; rows = its_rows; cells = cs } in h)
      (made_of (is_row_shown x its_columns) (λ w. map (shown_value x w) its_columns) g rs)

  pub IsShown-shown : (id : List ℕ) → IsAscending rs → IsShown (grid (shown_of id))
  IsShown-shown id is =
      let by_ids = IsByIds-by_id shown_id (map (shown_column x) (filter (λ (d : ColDef). x.column d.id) g.columns)) in
      subst IsShown (sym (shown_grid id)) (record {
        by_ids = by_ids;
        is_grid = IsGrid-grid_of shown_id its_columns its_rows its_cell (AreDistinct-IsByIds shown_id its_columns by_ids)
            (IsAscending-filter (λ r. is_row_shown x its_columns (row_of g r)) rs is);
      })

-- ---- a row that is the same is shown in the same way

chosen : (b : Bool) (v w : CellValue) → (b ≡ true → v ≡ w) → cond b (Some v) None ≡ cond b (Some w) None
chosen true v w same = ap (λ u. let o : Option CellValue = Some u in o) (same refl)
chosen false v w same = refl

cell_same : (r : ℕ) (g h : Grid ColDef) → SameRow column_id r g h → (c : List ℕ) → (row_of g r).cell c ≡ (row_of h r).cell c
cell_same r g h same c =
    chosen (has_id column_id g.columns c && has g.rows r) (cell column_id g c r) (cell column_id h c r) (λ is.
    let two : (has_id column_id g.columns c ≡ true) × (has g.rows r ≡ true) = and_parts (has_id column_id g.columns c) (has g.rows r) is in
    let d : (d : ColDef) × (find_id column_id c g.columns ≡ Some d) = found_has column_id c g.columns two.0 in
    let named : d.0.id ≡ c = found_id column_id c g.columns d.0 d.1 in
    subst (λ n. cell column_id g n r ≡ cell column_id h n r) named
    (same.cells d.0 (ap (λ n. find_id column_id n g.columns) named ∙ d.1) two.1))
    ∙ ap (λ ds. cond (has_id column_id ds c && has g.rows r) (Some (cell column_id h c r)) None) same.columns
    ∙ ap (λ b. cond (has_id column_id h.columns c && b) (Some (cell column_id h c r)) None) same.rows

pub row_same : (r : ℕ) (g h : Grid ColDef) → SameRow column_id r g h → row_of g r ≡ row_of h r
row_same r g h same =
    let each : (row_of g r).cell ≡ (row_of h r).cell = fun_ext (cell_same r g h same) in
    ap (λ f. let w : RuleRow = record { id = r; cell = f } in w) each

module _ (x : Readable) (r : ℕ) (g h : Grid ColDef) (same : SameRow column_id r g h) where
  columns_same : its_columns x g g.rows ≡ its_columns x h h.rows
  columns_same = ap (shown_columns x) same.columns

  passes_same : is_row_shown x (its_columns x g g.rows) (row_of g r) ≡ is_row_shown x (its_columns x h h.rows) (row_of h r)
  passes_same =
      ap (is_row_shown x (its_columns x g g.rows)) (row_same r g h same)
      ∙ ap (λ ds. is_row_shown x ds (row_of h r)) columns_same

  rows_same : has (its_rows x g g.rows) r ≡ has (its_rows x h h.rows) r
  rows_same =
      has-filter (λ r. is_row_shown x (its_columns x g g.rows) (row_of g r)) g.rows r
      ∙ ap (λ b. b && has g.rows r) passes_same
      ∙ ap (λ b. is_row_shown x (its_columns x h h.rows) (row_of h r) && b) same.rows
      ∙ sym (has-filter (λ r. is_row_shown x (its_columns x h h.rows) (row_of h r)) h.rows r)

  same_shape : SameRow shown_id r (its_grid x g g.rows) (its_grid x h h.rows)
  same_shape = record {
    columns = columns_same;
    rows = rows_same;
    cells = λ d found here.
        cell-grid_of shown_id (its_columns x g g.rows) (its_rows x g g.rows) (its_cell x g g.rows) d r found here
        ∙ ap (λ w. shown_value x w d) (row_same r g h same)
        ∙ sym (cell-grid_of shown_id (its_columns x h h.rows) (its_rows x h h.rows) (its_cell x h h.rows) d r (ap (find_id shown_id (shown_id d)) (sym columns_same) ∙ found) (sym rows_same ∙ here));
  }

  pub shown_same : (id : List ℕ) → SameRow shown_id r (grid (shown_of x g g.rows id)) (grid (shown_of x h h.rows id))
  shown_same id =
      subst (λ g. SameRow shown_id r g (grid (shown_of x h h.rows id))) (sym (shown_grid x g g.rows id))
      (subst (λ h. SameRow shown_id r (its_grid x g g.rows) h) (sym (shown_grid x h h.rows id)) same_shape)
