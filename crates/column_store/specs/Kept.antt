-- The cell that a table keeps at a place.
use Rattle.std.specs.Prelude.{ℕ, nat_eq, [], Option, slice_get}
use Rattle.cell_types.specs.declared.value.CellValue.{CellValue}
use Rattle.doc_model.specs.declared.column.ColDef.{ColDef}
use Rattle.doc_model.specs.Grid.{Grid, beside}

-- the cell of the column at a place and a row, where the grid has one
abbrev pub kept_at : Grid ColDef → ℕ → ℕ → Option CellValue
kept_at g place r = slice_get (beside (λ q. nat_eq q r) g.rows g.cells []) place
