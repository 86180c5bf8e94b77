-- Columns of a table, and cells of a column, by numbers.
use Rattle.std.specs.Prelude.{ℕ}
use Rattle.dep_graph.specs.declared.numbers.CellNumber.{CellNumber}
use Rattle.dep_graph.specs.declared.numbers.ColumnNumber.{ColumnNumber}

abbrev pub column_at : ℕ → ℕ → ColumnNumber
column_at t c = record { table = t; column = c }

abbrev pub cell_at : ColumnNumber → ℕ → CellNumber
cell_at k r = record { column = k; row = r }
