-- When columns, cells and reads by numbers are the same.
use Rattle.std.specs.Prelude.{Bool, false, ◌&&◌, nat_eq}
use Rattle.dep_graph.specs.declared.numbers.ColumnNumber.{ColumnNumber}
use Rattle.dep_graph.specs.declared.numbers.CellNumber.{CellNumber}
use Rattle.dep_graph.specs.declared.numbers.ValueNumber.{ValueNumber}
use Rattle.dep_graph.specs.declared.numbers.ReadNumber.{ReadNumber}
use Rattle.dep_graph.specs.declared.numbers.ReadNumber.TheVariants as read
use Rattle.dep_graph.specs.declared.numbers.Reading.{Reading}

abbrev pub is_column : ColumnNumber → ColumnNumber → Bool
is_column c d = nat_eq c.table d.table && nat_eq c.column d.column

abbrev pub is_cell : CellNumber → CellNumber → Bool
is_cell c d = is_column c.column d.column && nat_eq c.row d.row

abbrev pub is_value : ValueNumber → ValueNumber → Bool
is_value v w = is_column v.column w.column && nat_eq v.bucket w.bucket

abbrev pub is_read : ReadNumber → ReadNumber → Bool
is_read (read.Cell c) (read.Cell d) = is_cell c d
is_read (read.Key c) (read.Key d) = is_column c d
is_read (read.Rows t) (read.Rows u) = nat_eq t u
is_read (read.All t) (read.All u) = nat_eq t u
is_read (read.Value v) (read.Value w) = is_value v w
is_read (read.Part v) (read.Part w) = is_value v w
is_read q p = false

abbrev pub is_reading : Reading → Reading → Bool
is_reading i j = is_read i.read j.read && is_column i.column j.column
