-- The changes of a table, column by column.
use Rattle.std.specs.Prelude.{ℕ, Bool, cond, not, ◌&&◌, List, [], ◌∷◌, ◌++◌, filter}
use Rattle.doc_model.specs.declared.view.ViewCol.{ViewCol}
use Rattle.doc_model.specs.declared.view.ViewTable.{ViewTable}
use Rattle.doc_model.specs.declared.view.ViewAction.{ViewAction}
use Rattle.doc_model.specs.declared.view.ViewAction.TheVariants.{AddColumn, BulkAdd, BulkRemove, BulkUpdate, ModifyColumn, RemoveColumn, RemoveTable}
use Rattle.doc_model.specs.ByIds.{has_id}
use Rattle.doc_model.specs.Changes.{for_each, introduced, shown_table_id}
use Rattle.doc_model.specs.Grid.{Grid, beside, cell}
use Rattle.doc_model.specs.Records.{column_of}
use Rattle.doc_model.specs.Rows.{has, without}
use Rattle.doc_model.specs.Same.{same_value}
use Rattle.std.specs.Str.{bytes_eq}
use Rattle.doc_model.specs.ViewEdits.{differs, if_any, shown_id, shown_start, whole}
use Rattle.plain_view.specs.Cells.{row_cells}

-- a column that is gone
abbrev pub removed_column : List ℕ → List ViewCol → ViewCol → List ViewAction
removed_column t after d = cond (has_id shown_id after d.id) [] (RemoveColumn t d.id ∷ [])

-- a new column
abbrev pub added_column : List ℕ → List ViewCol → ViewCol → List ViewAction
added_column t before d = cond (has_id shown_id before d.id) [] (AddColumn t d ∷ [])

-- a column that is another one than before
abbrev pub modified_column : List ℕ → List ViewCol → ViewCol → List ViewAction
modified_column t before d = cond (differs before d) (ModifyColumn t d ∷ []) []

-- whether the cell of a row that stays is another one than before; in a new column it was the
-- type's default
abbrev pub is_told : Grid ViewCol → Grid ViewCol → ViewCol → ℕ → Bool
is_told g w d r =
    has g.rows r
    && not (same_value
    (beside (λ (e : ViewCol). bytes_eq e.id d.id) g.columns (row_cells g r) (shown_start d))
    (cell shown_id w d.id r))

-- the cells of a column that are other ones than before
abbrev pub updated_column : List ℕ → Grid ViewCol → Grid ViewCol → ViewCol → List ViewAction
updated_column t g w d =
    if_any (filter (is_told g w d) w.rows)
    (BulkUpdate t (filter (is_told g w d) w.rows)
    (column_of shown_id w (filter (is_told g w d) w.rows) d.id ∷ []))

-- the changes of the columns themselves
abbrev pub column_changes : List ℕ → Grid ViewCol → Grid ViewCol → List ViewAction
column_changes t g w =
    for_each (removed_column t w.columns) g.columns
    ++ for_each (added_column t g.columns) w.columns
    ++ for_each (modified_column t g.columns) w.columns

-- rows removed, and rows added
abbrev pub row_changes : List ℕ → Grid ViewCol → Grid ViewCol → List ViewAction
row_changes t g w =
    if_any (without w.rows g.rows) (BulkRemove t (without w.rows g.rows))
    ++ if_any (without g.rows w.rows)
    (BulkAdd t (without g.rows w.rows) (whole w (without g.rows w.rows)))

-- the changes of a table that is there before and after
abbrev pub revision : List ℕ → Grid ViewCol → Grid ViewCol → List ViewAction
revision t g w =
    column_changes t g w ++ row_changes t g w ++ for_each (updated_column t g w) w.columns

-- a table that is gone
abbrev pub removed_table : List ViewTable → ViewTable → List ViewAction
removed_table after s = cond (has_id shown_table_id after s.id) [] (RemoveTable s.id ∷ [])

-- a new table
abbrev pub new_table : List ViewTable → ViewTable → List ViewAction
new_table before t = cond (has_id shown_table_id before t.id) [] (introduced t)
