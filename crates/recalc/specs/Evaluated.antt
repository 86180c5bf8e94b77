-- The evaluated cells of a document.
use Rattle.std.specs.Prelude.{ℕ, cond, ◌&&◌, List, [], ◌∷◌, ◌++◌, map, Option, Some, None}
use Rattle.std.specs.Option.{option_map}
use Rattle.cell_types.specs.declared.cell.CellId.{CellId}
use Rattle.cell_types.specs.declared.value.CellValue.{CellValue}
use Rattle.doc_model.specs.declared.column.ColDef.{ColDef}
use Rattle.doc_model.specs.ByIds.{find_id}
use Rattle.doc_model.specs.Rows.{has}
use Rattle.doc_model.specs.Grid.{Grid, grid_of, cell}
use Rattle.doc_model.specs.Column.{column_id}
use Rattle.doc_model.specs.Document.{Document, table_id, on_grid}
use Rattle.doc_model.specs.Readers.{of_table, rows_at}
use Rattle.formula_eval.specs.Reader.{Told, known, no_table, no_column, no_row}
use Rattle.recalc.specs.Cells.{cell_of}
use Rattle.recalc.specs.Sheet.{Sheet, evaluated}

-- the column of this id in a table of this id
abbrev pub column_in : Document → List ℕ → List ℕ → Option ColDef
column_in s table column = of_table s table (λ g. find_id column_id column g.columns)

-- the formula of a cell that is there and stands in a formula column
abbrev pub formula_in : Grid ColDef → ℕ → ColDef → Option (List ℕ)
formula_in g r d = cond (d.info.is_formula && has g.rows r) (Some d.info.formula) None

abbrev pub formula_at : Document → CellId → Option (List ℕ)
formula_at s c = of_table s c.table (λ g.
    elim (find_id column_id c.column g.columns) [ None ↦ None | Some d ↦ formula_in g c.row d ])

-- what is told of a cell that has no formula
abbrev pub base_in : Grid ColDef → CellId → Option ColDef → Told
base_in g c None = no_column
base_in g c (Some d) = cond (has g.rows c.row) (known (cell column_id g c.column c.row)) no_row

abbrev pub base_at : Document → CellId → Told
base_at s c = elim (find_id table_id c.table s) [
  | None ↦ no_table
  | Some t ↦ base_in t.grid c (find_id column_id c.column t.grid.columns)
]

-- the cells of all formula columns, table by table, column by column, row by row
abbrev pub cells_of_column : List ℕ → Grid ColDef → ColDef → List CellId
cells_of_column t g d = cond d.info.is_formula (map (cell_of t d.id) g.rows) []

abbrev pub cells_of_columns : List ℕ → Grid ColDef → List ColDef → List CellId
cells_of_columns t g [] = []
cells_of_columns t g (d ∷ ds) = cells_of_column t g d ++ cells_of_columns t g ds

abbrev pub formula_cells : Document → List CellId
formula_cells [] = []
formula_cells (t ∷ s) = cells_of_columns t.id t.grid t.grid.columns ++ formula_cells s

-- the document as formulas see it
abbrev pub sheet_of : Document → Sheet
sheet_of s = record {
  kind = λ table column. option_map (λ (d : ColDef). d.info.ty) (column_in s table column);
  rows = rows_at s;
  formula = formula_at s;
  base = base_at s;
  cells = formula_cells s;
}

-- the value of a formula cell
unfoldable pub value_of : Document → List ℕ → List ℕ → ℕ → CellValue
value_of s table column row = evaluated (sheet_of s) (cell_of table column row)

-- the table with these values in its formula columns
abbrev pub fill : (List ℕ → ℕ → CellValue) → Grid ColDef → Grid ColDef
fill v g =
    grid_of g.columns g.rows (λ d r. cond d.info.is_formula (v d.id r) (cell column_id g d.id r))

abbrev pub filled_by : (List ℕ → List ℕ → ℕ → CellValue) → Document → Document
filled_by v s = map (λ t. on_grid (fill (v t.id)) t) s

-- the document with the value of each formula cell in its place
abbrev pub filled : Document → Document
filled s = filled_by (value_of s) s
