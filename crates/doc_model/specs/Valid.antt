-- Where a document action is valid.
use Rattle.std.specs.Prelude.{ℕ, Bool, true, false, cond, not, ◌&&◌, ◌||◌, nat_eq, nat_lt, List, [], ◌∷◌, map, length, Option, Some, None}
use Rattle.std.specs.List.{list_all}
use Rattle.cell_types.specs.NameRule.{is_name}
use Rattle.doc_model.specs.declared.action.DocAction.{DocAction}
use Rattle.doc_model.specs.declared.action.DocAction.TheVariants.{BulkAdd, BulkUpdate, BulkRemove, AddTable, RemoveTable, RenameTable, AddColumn, RemoveColumn, RenameColumn, ModifyColumn}
use Rattle.doc_model.specs.declared.column.CellColumn.{CellColumn}
use Rattle.doc_model.specs.declared.column.ColDef.{ColDef}
use Rattle.doc_model.specs.MetadataIds.{is_schema_id, is_metadata_id, tables_id, columns_id}
use Rattle.doc_model.specs.ByIds.{find_id, has_id, are_distinct}
use Rattle.doc_model.specs.Rows.{has_no_duplicates, all_in, none_in}
use Rattle.doc_model.specs.Grid.{Grid, cell}
use Rattle.doc_model.specs.Records.{given_id}
use Rattle.doc_model.specs.Column.{column_id, column_row, is_base, is_sound_info}
use Rattle.cell_types.specs.ColumnRange.{is_null}
use Rattle.doc_model.specs.Document.{Table, Document, table_id}

-- whether the thing is there and passes the test
abbrev pub passes : {X : Type 0} → Option X → (X → Bool) → Bool
passes None test = false
passes (Some x) test = test x

-- the table of a record action: any but the schema tables
abbrev pub record_table : Document → List ℕ → Option Table
record_table s id = cond (is_schema_id id) None (find_id table_id id s)

-- the table of a schema action: any but the metadata tables
abbrev pub schema_table : Document → List ℕ → Option Table
schema_table s id = cond (is_metadata_id id) None (find_id table_id id s)

-- the rows of a table, none where it is not there
abbrev pub rows_of : Document → List ℕ → List ℕ
rows_of s id = elim (find_id table_id id s) [ None ↦ [] | Some t ↦ t.grid.rows ]

-- whether all numbers are from 1
abbrev pub from_one : List ℕ → Bool
from_one rows = list_all (λ r. nat_lt 0 r) rows

-- whether the column is there and has no formula
abbrev pub is_data : Grid ColDef → List ℕ → Bool
is_data g c = passes (find_id column_id c g.columns) (λ d. not d.info.is_formula)

-- whether a given column is a data column with a base value for each row
abbrev pub gives_column : Grid ColDef → List ℕ → CellColumn → Bool
gives_column g rows k =
    is_data g k.id && nat_eq (length k.values) (length rows) && list_all is_base k.values

-- whether each given column is such a one, and none is given twice
abbrev pub gives_data : Grid ColDef → List ℕ → List CellColumn → Bool
gives_data g rows ks = are_distinct given_id ks && list_all (gives_column g rows) ks

-- whether the metadata rows are from 1, once, and not among those of a schema table
abbrev pub are_free : Document → List ℕ → List ℕ → Bool
are_free s id rows = from_one rows && has_no_duplicates rows && none_in rows (rows_of s id)

-- whether the column of this id holds Null in each row
abbrev pub all_null : Grid ColDef → List ℕ → Bool
all_null g c = list_all (λ r. is_null (cell column_id g c r)) g.rows

-- whether no table has the id, and it is a name
abbrev pub is_new_table : Document → List ℕ → Bool
is_new_table s id = not (has_id table_id s id) && is_name id

-- whether the table has no column of the id, and it is a name
abbrev pub is_new_column : Grid ColDef → List ℕ → Bool
is_new_column g id = not (has_id column_id g.columns id) && is_name id

abbrev pub valid : Document → DocAction → Bool
valid s (BulkAdd table rows ks) = passes (record_table s table) (λ t.
    has_no_duplicates rows && from_one rows && none_in rows t.grid.rows
    && gives_data t.grid rows ks)
valid s (BulkUpdate table rows ks) = passes (record_table s table) (λ t.
    has_no_duplicates rows && from_one rows && all_in rows t.grid.rows
    && gives_data t.grid rows ks)
valid s (BulkRemove table rows) = passes (record_table s table) (λ t.
    has_no_duplicates rows && all_in rows t.grid.rows)
valid s (AddTable table row columns) =
    is_new_table s table && are_free s tables_id (row ∷ [])
    && are_distinct column_id columns && list_all (λ (d : ColDef). is_name d.id) columns
    && are_free s columns_id (map column_row columns)
    && list_all (λ (d : ColDef). is_sound_info d.info) columns
valid s (RemoveTable table) = passes (schema_table s table) (λ _. true)
valid s (RenameTable table new) = passes (schema_table s table) (λ _. is_new_table s new)
valid s (AddColumn table d) = passes (schema_table s table) (λ t.
    is_new_column t.grid d.id && are_free s columns_id (d.row ∷ []) && is_sound_info d.info)
valid s (RemoveColumn table column) = passes (schema_table s table) (λ t.
    has_id column_id t.grid.columns column)
valid s (RenameColumn table column new) = passes (schema_table s table) (λ t.
    has_id column_id t.grid.columns column && is_new_column t.grid new)
valid s (ModifyColumn table column info) = passes (schema_table s table) (λ t.
    has_id column_id t.grid.columns column && is_sound_info info
    && (not info.is_formula || all_null t.grid column))
