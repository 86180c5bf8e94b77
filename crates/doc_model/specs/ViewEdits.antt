-- The edits of one table of a view, and those that lead from one state of it to another.
use Rattle.std.specs.Prelude.{ℕ, Bool, false, cond, not, List, [], ◌∷◌, ◌++◌, map, filter, Some, None}
use Rattle.std.specs.Str.{bytes_eq}
use Rattle.cell_types.specs.declared.value.CellValue.{CellValue}
use Rattle.doc_model.specs.declared.column.CellColumn.{CellColumn}
use Rattle.doc_model.specs.declared.view.ViewCol.{ViewCol}
use Rattle.cell_types.specs.Conversion.{default_value}
use Rattle.doc_model.specs.ByIds.{IsByIds, find_id, has_id, put_by_id, without_id}
use Rattle.doc_model.specs.Rows.{without}
use Rattle.doc_model.specs.Grid.{Grid, grid_of, cell, IsGrid}
use Rattle.doc_model.specs.Records.{add_rows, update_rows, remove_rows, column_of}
use Rattle.doc_model.specs.Same.{same_value, same_column}

abbrev pub shown_id : ViewCol → List ℕ
shown_id d = d.id

-- what a new cell of a shown column holds, a formula column's too
abbrev pub shown_start : ViewCol → CellValue
shown_start d = default_value d.ty

-- a table's columns stand by id, its rows ascend, and there is one cell for each row and column
pub record IsShown (g : Grid ViewCol) : Type 0 where
  pub by_ids : IsByIds shown_id g.columns
  pub is_grid : IsGrid shown_id g

-- a change of one table
pub data Edit : Type 0 where
  remove_column : List ℕ → Edit
  add_column : ViewCol → Edit
  modify_column : ViewCol → Edit
  remove : List ℕ → Edit
  add : List ℕ → List CellColumn → Edit
  update : List ℕ → List CellColumn → Edit

-- the table after an edit; columns stand by id, and rows ascend
abbrev pub edited : Edit → Grid ViewCol → Grid ViewCol
edited (remove_column c) g =
    grid_of (without_id shown_id c g.columns) g.rows (λ d r. cell shown_id g d.id r)
edited (add_column new) g =
    grid_of (put_by_id shown_id new g.columns) g.rows (λ d r.
    cond (bytes_eq d.id new.id) (shown_start new) (cell shown_id g d.id r))
edited (modify_column new) g =
    grid_of (put_by_id shown_id new g.columns) g.rows (λ d r. cell shown_id g d.id r)
edited (remove rows) g = remove_rows shown_id rows g
edited (add rows ks) g = add_rows shown_id shown_start rows ks g
edited (update rows ks) g = update_rows shown_id rows ks g

-- the table after edits, in order
abbrev pub all_edited : List Edit → Grid ViewCol → Grid ViewCol
all_edited [] g = g
all_edited (e ∷ es) g = all_edited es (edited e g)

-- nothing where there is no row
abbrev pub if_any : {X : Type 0} → List ℕ → X → List X
if_any [] x = []
if_any (r ∷ rows) x = x ∷ []

-- all columns' cells in these rows
abbrev pub whole : Grid ViewCol → List ℕ → List CellColumn
whole w rows = map (λ (d : ViewCol). column_of shown_id w rows d.id) w.columns

-- whether a column of this id is there and is another one
abbrev pub differs : List ViewCol → ViewCol → Bool
differs columns d =
    elim (find_id shown_id d.id columns) [ None ↦ false | Some e ↦ not (same_column e d) ]

-- columns removed, added and modified, and then rows removed and added
abbrev pub shape_edits : Grid ViewCol → Grid ViewCol → List Edit
shape_edits g w =
    map (λ (d : ViewCol). remove_column d.id)
    (filter (λ d. not (has_id shown_id w.columns d.id)) g.columns)
    ++ map add_column (filter (λ d. not (has_id shown_id g.columns d.id)) w.columns)
    ++ map modify_column (filter (differs g.columns) w.columns)
    ++ if_any (without w.rows g.rows) (remove (without w.rows g.rows))
    ++ if_any (without g.rows w.rows)
    (add (without g.rows w.rows) (whole w (without g.rows w.rows)))

-- the rows in which a column's cells differ
abbrev pub differing : Grid ViewCol → Grid ViewCol → ViewCol → List ℕ
differing h w d =
    filter (λ r. not (same_value (cell shown_id h d.id r) (cell shown_id w d.id r))) w.rows

-- one update for each column, over the cells that differ
abbrev pub cell_edits : Grid ViewCol → Grid ViewCol → List ViewCol → List Edit
cell_edits h w [] = []
cell_edits h w (d ∷ ds) =
    if_any (differing h w d)
    (update (differing h w d) (column_of shown_id w (differing h w d) d.id ∷ []))
    ++ cell_edits h w ds

-- the edits that lead from g to w: its shape first, and then the cells that still differ
abbrev pub edits : Grid ViewCol → Grid ViewCol → List Edit
edits g w = shape_edits g w ++ cell_edits (all_edited (shape_edits g w) g) w w.columns
