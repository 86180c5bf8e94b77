-- Where the cells of a table that is built anew come from.
use Rattle.std.specs.Prelude.{ℕ, List, Option, unwrap_or}
use Rattle.cell_types.specs.declared.value.CellValue.{CellValue}
use Rattle.doc_model.specs.declared.column.CellColumn.{CellColumn}
use Rattle.doc_model.specs.declared.view.ViewCol.{ViewCol}
use Rattle.doc_model.specs.ViewEdits.{shown_start}
use Rattle.view_patch.specs.declared.rebuilding.Source.{Source}
use Rattle.plain_view.specs.Cells.{column_index, value_in}
use Rattle.view_patch.specs.Given.{column_at, given_at, last_named}

-- where a column's cells come from
abbrev pub source_of : List ViewCol → List CellColumn → ViewCol → Source
source_of before ks d = record {
  before = column_index before d.id;
  given = last_named ks d.id;
  start = shown_start d;
}

-- the cell of a row, with the index of the row among those that are given
abbrev pub sourced_cell : List CellValue → List CellColumn → Option ℕ → Source → CellValue
sourced_cell row ks index source =
    unwrap_or (given_at index (column_at ks source.given)) (value_in row source.before source.start)
