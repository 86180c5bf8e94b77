-- Changes of a table's rows, what is told to a table, and what takes them back.
use Rattle.std.specs.Prelude.{ℕ, ◌+◌, ◌≤◌, ◌≡◌, List, length, Vec, vec_len, vec_capacity, ⊤}
use Rattle.std.specs.Global.{Global}
use Rattle.std.specs.List.{AllByRecursion}
use Rattle.cell_types.specs.declared.value.CellValue.{CellValue}
use Rattle.doc_model.specs.declared.column.ColDef.{ColDef}
use Rattle.doc_model.specs.Column.{column_id}
use Rattle.doc_model.specs.Document.{Table, on_grid}
use Rattle.doc_model.specs.Grid.{Grid, IsGrid}
use Rattle.row_tables.specs.InPlace.{beside_left, cells_again, on_rows, rows_again, rows_left, written, written_back}
use Rattle.row_tables.specs.RowIndexes.{AreNew, new_indexes, put_at, taken_out}
use Rattle.row_tables.specs.declared.removed.TakenRow.{TakenRow}
use Rattle.column_store.specs.Crossed.{AreRooms}
use Rattle.column_store.specs.declared.change.Change.{Change}
use Rattle.column_store.specs.declared.change.Change.TheVariants as change
use Rattle.column_store.specs.declared.change.Told.{Told}
use Rattle.column_store.specs.declared.change.Told.TheVariants as told
use Rattle.column_store.specs.declared.removed.TakenRows.{TakenRows}

-- each row that is gone has so many cells
abbrev pub AreWide : ℕ → List TakenRow → Type 0
AreWide width taken = AllByRecursion (λ (t : TakenRow). length t.cells ≡ width) taken

-- whether there is room for the rows that are gone beside those that are left
abbrev pub HasRoom : TakenRows → Grid ColDef → Type 0
HasRoom back g =
    (length g.rows + vec_len back.taken ≤ vec_capacity back.rows)
    × (length g.cells ≡ length g.rows)
    × (length back.cells.items ≡ length g.columns)
    × AreRooms (length g.rows + vec_len back.taken) back.cells.items
    × AreWide (length g.columns) back.taken.items

-- the grid with new rows and their cells put into their places
abbrev pub rows_put : List ℕ → List (List CellValue) → Grid ColDef → Grid ColDef
rows_put new lists g =
    on_rows (put_at (new_indexes new g.rows) new) (put_at (new_indexes new g.rows) lists) g

-- the grid without some rows and their cells
abbrev pub rows_gone : List ℕ → Grid ColDef → Grid ColDef
rows_gone gone g = on_rows (rows_left gone) (beside_left gone g.rows) g

-- lists of cells as long as the columns
abbrev pub AreFull : List (List CellValue) → Grid ColDef → Type 0
AreFull lists g = AllByRecursion (λ l. length l ≡ length g.columns) lists

-- ---- what is told

-- the grid after it
abbrev pub told_grid : Told → Grid ColDef → Grid ColDef
told_grid (told.Come rows lists) = rows_put rows.items lists.items
told_grid (told.Go rows) = rows_gone rows.items
told_grid (told.Values writes) = on_rows (λ rows. rows) (written writes.items)

-- and where it may be done
abbrev pub told_fits : Told → Grid ColDef → Type 0
told_fits (told.Come rows lists) g =
    IsGrid column_id g × AreNew rows.items g.rows × (length lists.items ≡ length rows.items)
    × AreFull lists.items g
told_fits (told.Go rows) g = IsGrid column_id g
told_fits (told.Values writes) g = ⊤

-- ---- what takes it back

-- a table with a change taken back
abbrev pub change_back : Change → Table → Table
change_back (change.Added indexes) =
    on_grid (on_rows (taken_out indexes.items) (taken_out indexes.items))
change_back (change.Written writes) = on_grid (on_rows (λ rows. rows) (written_back writes.items))
change_back (change.Taken back) =
    on_grid (on_rows (rows_again back.taken.items) (cells_again back.taken.items))

-- where that takes no memory
abbrev pub change_fits : Change → Table → Type 0
change_fits (change.Taken back) t = HasRoom back t.grid
change_fits _ t = ⊤
