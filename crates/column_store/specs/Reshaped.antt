-- What schema actions make of one table, and what takes that back.
use Rattle.std.specs.Prelude.{ℕ, ◌+◌, ◌≤◌, ◌<◌, ◌≡◌, true, false, List, length, map, slice_set, vec_capacity, ⊤}
use Rattle.std.specs.List.{insert, remove}
use Rattle.cell_types.specs.declared.value.CellValue.{CellValue}
use Rattle.doc_model.specs.declared.action.DocAction.{DocAction}
use Rattle.doc_model.specs.declared.action.DocAction.TheVariants.{AddColumn, RemoveColumn, RenameColumn, ModifyColumn}
use Rattle.doc_model.specs.declared.column.ColDef.{ColDef}
use Rattle.doc_model.specs.ByIds.{has_id}
use Rattle.doc_model.specs.Column.{column_id}
use Rattle.doc_model.specs.Document.{Table, on_grid, renamed}
use Rattle.doc_model.specs.Grid.{Grid}
use Rattle.column_store.specs.Crossed.{insert_beside}
use Rattle.column_store.specs.declared.reshaped.TableBack.{TableBack}
use Rattle.column_store.specs.declared.reshaped.TableBack.TheVariants as back

-- the columns that a schema action asks for in its table, and those that may not be there
abbrev pub ReshapeAsks : DocAction → Grid ColDef → Type 0
ReshapeAsks (AddColumn table d) g = has_id column_id g.columns d.id ≡ false
ReshapeAsks (RemoveColumn table column) g = has_id column_id g.columns column ≡ true
ReshapeAsks (RenameColumn table column new) g = has_id column_id g.columns column ≡ true
ReshapeAsks (ModifyColumn table column info) g = has_id column_id g.columns column ≡ true
ReshapeAsks _ g = ⊤

-- the grid with another column at an index, and all cells as they were
abbrev pub column_put : ℕ → ColDef → Grid ColDef → Grid ColDef
column_put j d g = record { columns = slice_set g.columns j d; rows = g.rows; cells = g.cells }

-- with a column and its cells put in at an index
abbrev pub column_in : ℕ → ColDef → List CellValue → Grid ColDef → Grid ColDef
column_in j d c g = record {
  columns = insert g.columns j d;
  rows = g.rows;
  cells = insert_beside j c g.cells;
}

-- without the column at an index
abbrev pub column_out : ℕ → Grid ColDef → Grid ColDef
column_out j g = record {
  columns = remove g.columns j;
  rows = g.rows;
  cells = map (λ row. remove row j) g.cells;
}

-- a table with a schema action taken back
abbrev pub table_back : TableBack → Table → Table
table_back (back.Named old) = renamed old
table_back (back.ColumnChanged index old) = on_grid (column_put index old)
table_back (back.ColumnCame index) = on_grid (column_out index)
table_back (back.ColumnWent index old cells columns room) =
    on_grid (column_in index old cells.items)

-- where that can be done, and takes no memory
abbrev pub back_fits : TableBack → Table → Type 0
back_fits (back.ColumnCame index) t = index < length t.grid.columns
back_fits (back.ColumnWent index old cells columns room) t =
    (index ≤ length t.grid.columns) × (length cells.items ≡ length t.grid.cells)
    × (length t.grid.columns + 1 ≤ vec_capacity columns)
    × (length t.grid.columns + 1 ≤ vec_capacity room)
back_fits _ t = ⊤
