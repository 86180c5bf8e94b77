-- What a document tells of its tables, columns, rows and cells.
use Rattle.std.specs.Prelude.{ℕ, cond, ◌&&◌, List, Option, Some, None, slice_get}
use Rattle.std.specs.Option.{option_map}
use Rattle.cell_types.specs.declared.value.CellValue.{CellValue}
use Rattle.doc_model.specs.declared.column.ColDef.{ColDef}
use Rattle.doc_model.specs.ByIds.{find_id, has_id}
use Rattle.doc_model.specs.Rows.{has}
use Rattle.doc_model.specs.Grid.{Grid, cell}
use Rattle.doc_model.specs.Column.{column_id}
use Rattle.doc_model.specs.Document.{Document, table_id}

-- what the table of this id tells, where it is there
abbrev pub of_table : {X : Type 0} → Document → List ℕ → (Grid ColDef → Option X) → Option X
of_table s table f = elim (find_id table_id table s) [ None ↦ None | Some t ↦ f t.grid ]

-- the id of the table at an index, counted from 0
abbrev pub table_at : Document → ℕ → Option (List ℕ)
table_at s index = option_map table_id (slice_get s index)

-- the column at an index of a table, counted from 0
abbrev pub column_at : Document → List ℕ → ℕ → Option ColDef
column_at s table index = of_table s table (λ g. slice_get g.columns index)

-- the rows of a table
abbrev pub rows_at : Document → List ℕ → Option (List ℕ)
rows_at s table = of_table s table (λ g. Some g.rows)

-- the cell of a table at a column and a row
abbrev pub cell_at : Document → List ℕ → List ℕ → ℕ → Option CellValue
cell_at s table column row = of_table s table (λ g.
    cond (has_id column_id g.columns column && has g.rows row)
    (Some (cell column_id g column row)) None)
