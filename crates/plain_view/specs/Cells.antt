-- Where the cells of a table stand.
use Rattle.std.specs.Prelude.{ℕ, nat_eq, List, [], Option, Some, None, get_or}
use Rattle.std.specs.List.{position}
use Rattle.std.specs.Str.{bytes_eq}
use Rattle.cell_types.specs.declared.value.CellValue.{CellValue}
use Rattle.doc_model.specs.declared.view.ViewCol.{ViewCol}
use Rattle.doc_model.specs.Grid.{Grid, beside}

-- the index of the first column of an id
abbrev pub column_index : List ViewCol → List ℕ → Option ℕ
column_index columns c = position (λ (d : ViewCol). bytes_eq d.id c) columns

-- the cells of a row
abbrev pub row_cells : Grid ViewCol → ℕ → List CellValue
row_cells g r = beside (λ q. nat_eq q r) g.rows g.cells []

-- the value at an index of a row, or another one where there is no index or no value
abbrev pub value_in : List CellValue → Option ℕ → CellValue → CellValue
value_in row None other = other
value_in row (Some index) other = get_or row index other
