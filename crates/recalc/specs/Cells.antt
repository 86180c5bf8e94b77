-- Cells by name.
use Rattle.std.specs.Prelude.{ℕ, Bool, ◌&&◌, nat_eq, List}
use Rattle.std.specs.Str.{bytes_eq}
use Rattle.cell_types.specs.declared.cell.CellId.{CellId}

-- the cell of a table, a column and a row
abbrev pub cell_of : List ℕ → List ℕ → ℕ → CellId
cell_of t c r = record { table = t; column = c; row = r }

-- whether two cells are one
abbrev pub same_cell : CellId → CellId → Bool
same_cell c d = bytes_eq c.table d.table && bytes_eq c.column d.column && nat_eq c.row d.row
