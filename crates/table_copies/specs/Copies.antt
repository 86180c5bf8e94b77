-- Copies of tables.
use Rattle.std.specs.Prelude.{ℕ, nat_eq, List, map}
use Rattle.cell_types.specs.declared.value.CellValue.{CellValue}
use Rattle.cell_types.specs.declared.value.CellValue.TheVariants.{Null}
use Rattle.doc_model.specs.Document.{Table}
use Rattle.doc_model.specs.Grid.{beside}
use Rattle.table_copies.specs.declared.columns.CopiedColumn.{CopiedColumn}

-- a table without what says where it stands
abbrev pub without_row : Table → Table
without_row t = record { id = t.id; row = 0; grid = t.grid }

-- the cells of a row of copied columns: of each the one beside the row
abbrev pub cells_beside : List CopiedColumn → List ℕ → ℕ → List CellValue
cells_beside columns rows row =
    map (λ (c : CopiedColumn). beside (λ q. nat_eq q row) rows c.cells.items Null) columns

-- a table of copied columns
abbrev pub table_of : List ℕ → List CopiedColumn → List ℕ → Table
table_of id columns rows = record {
  id = id;
  row = 0;
  grid = record {
    columns = map (λ (c : CopiedColumn). c.column) columns;
    rows = rows;
    cells = map (cells_beside columns rows) rows;
  };
}
