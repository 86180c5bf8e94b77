-- Updates of the cells of a column that something changes.
use Rattle.std.specs.Prelude.{ℕ, not, List, [], ◌∷◌, map, filter}
use Rattle.cell_types.specs.declared.value.CellValue.{CellValue}
use Rattle.doc_model.specs.declared.action.DocAction.TheVariants.{BulkUpdate}
use Rattle.doc_model.specs.declared.action.Step.{Step}
use Rattle.doc_model.specs.declared.column.CellColumn.{CellColumn}
use Rattle.doc_model.specs.declared.column.ColDef.{ColDef}
use Rattle.doc_model.specs.Column.{column_id}
use Rattle.doc_model.specs.Grid.{Grid, cell}
use Rattle.doc_model.specs.Same.{same_value}
use Rattle.doc_model.specs.ViewEdits.{if_any}
use Rattle.user_actions.specs.Marked.{indirect}

-- those of the rows in which it changes the column's cell
abbrev pub rows_changed : Grid ColDef → List ℕ → (CellValue → CellValue) → List ℕ → List ℕ
rows_changed g c f rows =
    filter (λ r. not (same_value (cell column_id g c r) (f (cell column_id g c r)))) rows

-- the cells of these rows as it leaves them
abbrev pub column_changed : Grid ColDef → List ℕ → (CellValue → CellValue) → List ℕ → CellColumn
column_changed g c f rows = record { id = c; values = map (λ r. f (cell column_id g c r)) rows }

-- the update of the cells in these rows that it changes, where there are any
abbrev pub update_changed : List ℕ → Grid ColDef → List ℕ → (CellValue → CellValue) → List ℕ
    → List Step
update_changed table g c f rows =
    if_any (rows_changed g c f rows)
    (indirect (BulkUpdate table (rows_changed g c f rows)
    (column_changed g c f (rows_changed g c f rows) ∷ [])))
