-- Rows of one table that come or go, and their cells.
use Rattle.std.specs.Prelude.{ℕ, true, ◌&&◌, List, [], Option, Some, None, ◌≡◌}
use Rattle.std.specs.Option.{is_some}
use Rattle.std.specs.Str.{bytes_eq}
use Rattle.cell_types.specs.declared.cell.CellId.{CellId}
use Rattle.doc_model.specs.declared.action.DocAction.{DocAction}
use Rattle.doc_model.specs.declared.action.DocAction.TheVariants.{BulkAdd, BulkRemove}
use Rattle.doc_model.specs.declared.column.ColDef.{ColDef}
use Rattle.doc_model.specs.Document.{Document}
use Rattle.doc_model.specs.Rows.{has}
use Rattle.doc_readers.specs.Parts.{grid_at}
use Rattle.recalc.specs.Cells.{cell_of}
use Rattle.recalc.specs.Evaluated.{formula_at}
use Rattle.recalc.specs.Stack.{on}

-- the table of which rows come or go
abbrev pub moved_table : DocAction → Option (List ℕ)
moved_table (BulkAdd table rows ks) = Some table
moved_table (BulkRemove table rows) = Some table
moved_table _ = None

-- these rows
abbrev pub moved_rows : DocAction → List ℕ
moved_rows (BulkAdd table rows ks) = rows
moved_rows (BulkRemove table rows) = rows
moved_rows _ = []

-- the cells of a column in these rows are among the cells, where it is a formula column
abbrev pub HasCellsOfColumn : List ℕ → List ℕ → List CellId → ColDef → Type 0
HasCellsOfColumn t rows cells d = d.info.is_formula ≡ true
    → (r : ℕ) → has rows r ≡ true → on cells (cell_of t d.id r) ≡ true

-- the formula cells of a table in these rows are among the cells
abbrev pub HasCellsOf : Document → List ℕ → List ℕ → List CellId → Type 0
HasCellsOf s t rows cells = (c : CellId) → (bytes_eq c.table t && has rows c.row) ≡ true
    → is_some (formula_at s c) ≡ true → on cells c ≡ true

-- so they are of each document in which the table has these columns, whether the rows are there or
-- not
abbrev pub HasCellsWith : List ColDef → List ℕ → List ℕ → List CellId → Type 0
HasCellsWith columns t rows cells = (s : Document) → (grid_at s t).columns ≡ columns
    → HasCellsOf s t rows cells
