-- The cells of a document that hold something else after an action, or are gone.
use Rattle.std.specs.Prelude.{ℕ, Bool, true, cond, not, ◌&&◌, List, [], ◌∷◌, ◌++◌, map, filter, Option, Some, None}
use Rattle.std.specs.Str.{bytes_eq}
use Rattle.cell_types.specs.declared.cell.CellOld.{CellOld}
use Rattle.cell_types.specs.declared.value.CellValue.{CellValue}
use Rattle.doc_model.specs.declared.action.DocAction.{DocAction}
use Rattle.doc_model.specs.declared.action.DocAction.TheVariants.{RenameTable, RenameColumn}
use Rattle.doc_model.specs.declared.column.ColDef.{ColDef}
use Rattle.doc_model.specs.Grid.{Grid, cell}
use Rattle.doc_model.specs.Column.{column_id}
use Rattle.doc_model.specs.Document.{Document, table_id}
use Rattle.doc_model.specs.Same.{same_value}
use Rattle.doc_model.specs.Readers.{cell_at}
use Rattle.doc_readers.specs.Parts.{grid_at}
use Rattle.recalc.specs.Cells.{cell_of}
use Rattle.recalc.specs.Evaluated.{filled}
use Rattle.recalc.specs.InOrder.{in_order}

-- the cells of one column in these rows, with what they hold
abbrev pub cells_at : List ℕ → Grid ColDef → List ℕ → List ℕ → List CellOld
cells_at t g c [] = []
cells_at t g c (r ∷ rows) =
    record { cell = cell_of t c r; old = cell column_id g c r } ∷ cells_at t g c rows

abbrev pub columns_cells : List ℕ → Grid ColDef → List (List ℕ) → List CellOld
columns_cells t g [] = []
columns_cells t g (c ∷ cs) = cells_at t g c g.rows ++ columns_cells t g cs

abbrev pub table_cells : Document → List ℕ → List CellOld
table_cells v t =
    columns_cells t (grid_at v t) (in_order (map column_id (grid_at v t).columns))

abbrev pub tables_cells : Document → List (List ℕ) → List CellOld
tables_cells v [] = []
tables_cells v (t ∷ ts) = table_cells v t ++ tables_cells v ts

-- all cells with what they hold, by table, column and row
abbrev pub all_cells : Document → List CellOld
all_cells v = tables_cells v (in_order (map table_id v))

-- the id that a table has after the action
abbrev pub table_after : DocAction → List ℕ → List ℕ
table_after (RenameTable table new) id = cond (bytes_eq id table) new id
table_after _ id = id

-- the id that a column of a table has after the action
abbrev pub column_after : DocAction → List ℕ → List ℕ → List ℕ
column_after (RenameColumn table column new) t id =
    cond (bytes_eq t table && bytes_eq id column) new id
column_after _ t id = id

-- whether a cell that held the value holds something else, or is gone
abbrev pub differs : CellValue → Option CellValue → Bool
differs v None = true
differs v (Some w) = not (same_value v w)

-- whether a cell before the action differs from the one that stands under its new name
abbrev pub is_lost : Document → DocAction → CellOld → Bool
is_lost w a o =
    differs o.old (cell_at w (table_after a o.cell.table)
    (column_after a o.cell.table o.cell.column) o.cell.row)

-- the cells of the first document that differ in the second or are gone, under the names before
abbrev pub lost : Document → Document → DocAction → List CellOld
lost s t a = filter (is_lost (filled t) a) (all_cells (filled s))
