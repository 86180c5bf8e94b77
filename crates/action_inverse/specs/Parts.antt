-- What of a document its inverses are made of.
use Rattle.std.specs.Prelude.{ℕ, List, [], ◌∷◌, Option}
use Rattle.std.specs.Option.{option_map}
use Rattle.doc_model.specs.declared.action.DocAction.{DocAction}
use Rattle.doc_model.specs.declared.action.DocAction.TheVariants.{BulkUpdate, ModifyColumn}
use Rattle.doc_model.specs.declared.column.CellColumn.{CellColumn}
use Rattle.doc_model.specs.declared.column.ColDef.{ColDef}
use Rattle.doc_model.specs.ByIds.{find_id}
use Rattle.doc_model.specs.Column.{column_id}
use Rattle.doc_model.specs.Document.{Document, table_id, table_row}
use Rattle.doc_model.specs.Inverse.{made_of, old_columns, data_columns}
use Rattle.doc_model.specs.Records.{column_of}
use Rattle.doc_model.specs.Schema.{plain_tables}
use Rattle.doc_readers.specs.Parts.{grid_at}

-- the row that describes a table in the table of tables
abbrev pub metadata_row : Document → List ℕ → Option ℕ
metadata_row s table = option_map table_row (find_id table_id table (plain_tables s))

-- the cells of a column in these rows
abbrev pub cells_in : Document → List ℕ → List ℕ → List ℕ → CellColumn
cells_in s table rows column = column_of column_id (grid_at s table) rows column

-- the cells of the given columns in these rows, by column id
abbrev pub old_cells : Document → List ℕ → List ℕ → List CellColumn → List CellColumn
old_cells s table rows ks = old_columns (grid_at s table) rows ks

-- the cells of all data columns in these rows, by column id
abbrev pub data_cells : Document → List ℕ → List ℕ → List CellColumn
data_cells s table rows = data_columns (grid_at s table) rows

-- what writes the cells of a column in these rows
abbrev pub cells_back : Document → List ℕ → List ℕ → List ℕ → DocAction
cells_back s table rows column = BulkUpdate table rows (cells_in s table rows column ∷ [])

-- what gives a column its present info again
abbrev pub info_back : Document → List ℕ → List ℕ → List DocAction
info_back s table column =
    made_of (find_id column_id column (grid_at s table).columns) (λ (d : ColDef).
    ModifyColumn table column d.info ∷ [])
