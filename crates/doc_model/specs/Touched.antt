-- Which rows a document action touches: those that it names, all rows of a table that a schema
-- action names, and the rows of the schema tables that it adds, writes or removes.
use Rattle.std.specs.Prelude.{ℕ, Bool, true, false, ◌&&◌, ◌||◌, List, [], ◌∷◌, map, Some, None, ◌≡◌}
use Rattle.std.specs.Str.{bytes_eq}
use Rattle.doc_model.specs.declared.action.DocAction.{DocAction}
use Rattle.doc_model.specs.declared.action.DocAction.TheVariants.{BulkAdd, BulkUpdate, BulkRemove, AddTable, RemoveTable, RenameTable, AddColumn, RemoveColumn, RenameColumn, ModifyColumn}
use Rattle.doc_model.specs.Apply.{apply}
use Rattle.doc_model.specs.ByIds.{find_id}
use Rattle.doc_model.specs.Column.{column_id, column_row}
use Rattle.doc_model.specs.Document.{Document, Table, table_id}
use Rattle.doc_model.specs.DocumentLaws.{IsWhole}
use Rattle.doc_model.specs.MetadataIds.{tables_id, columns_id}
use Rattle.doc_model.specs.Rows.{has}
use Rattle.doc_model.specs.SameRows.{Both, SameRow}
use Rattle.doc_model.specs.Valid.{valid}

-- whether the action names the table, under its id before or after it
abbrev pub names_table : DocAction → List ℕ → Bool
names_table (BulkAdd table rows ks) id = bytes_eq table id
names_table (BulkUpdate table rows ks) id = bytes_eq table id
names_table (BulkRemove table rows) id = bytes_eq table id
names_table (AddTable table row columns) id = bytes_eq table id
names_table (RemoveTable table) id = bytes_eq table id
names_table (RenameTable table new) id = bytes_eq table id || bytes_eq new id
names_table (AddColumn table d) id = bytes_eq table id
names_table (RemoveColumn table column) id = bytes_eq table id
names_table (RenameColumn table column new) id = bytes_eq table id
names_table (ModifyColumn table column info) id = bytes_eq table id

-- whether the action is about that row of its table: a schema action is about all
abbrev pub is_about : DocAction → ℕ → Bool
is_about (BulkAdd table rows ks) r = has rows r
is_about (BulkUpdate table rows ks) r = has rows r
is_about (BulkRemove table rows) r = has rows r
is_about _ r = true

-- the row that describes the table
abbrev pub table_described : Document → List ℕ → List ℕ
table_described s table = elim (find_id table_id table s) [ None ↦ [] | Some t ↦ t.row ∷ [] ]

-- the rows that describe the columns of the table
abbrev pub columns_described : Document → List ℕ → List ℕ
columns_described s table =
    elim (find_id table_id table s) [ None ↦ [] | Some t ↦ map column_row t.grid.columns ]

-- the row that describes the column of the table
abbrev pub column_described : Document → List ℕ → List ℕ → List ℕ
column_described s table column =
    elim (find_id table_id table s) [
      | None ↦ []
      | Some t ↦ elim (find_id column_id column t.grid.columns) [ None ↦ [] | Some d ↦ d.row ∷ [] ]
    ]

-- the rows of the table of tables that the action adds, writes or removes
abbrev pub tables_touched : Document → DocAction → List ℕ
tables_touched s (AddTable table row columns) = row ∷ []
tables_touched s (RemoveTable table) = table_described s table
tables_touched s (RenameTable table new) = table_described s table
tables_touched s _ = []

-- the rows of the table of columns that it adds, writes or removes
abbrev pub columns_touched : Document → DocAction → List ℕ
columns_touched s (AddTable table row columns) = map column_row columns
columns_touched s (RemoveTable table) = columns_described s table
columns_touched s (AddColumn table d) = d.row ∷ []
columns_touched s (RemoveColumn table column) = column_described s table column
columns_touched s (RenameColumn table column new) = column_described s table column
columns_touched s (ModifyColumn table column info) = column_described s table column
columns_touched s _ = []

-- whether the action touches the row of a table
abbrev pub is_row_touched : Document → DocAction → List ℕ → ℕ → Bool
is_row_touched s a c r =
    (names_table a c && is_about a r)
    || (bytes_eq tables_id c && has (tables_touched s a) r)
    || (bytes_eq columns_id c && has (columns_touched s a) r)

-- two tables hold the same in the row
abbrev pub AreSameTables : ℕ → Table → Table → Type 0
AreSameTables r t u = SameRow column_id r t.grid u.grid

-- a valid action leaves each row that it does not touch
abbrev pub UntouchedLaw : Type 0
UntouchedLaw =
    (s : Document) (a : DocAction) → IsWhole s → valid s a ≡ true
    → (c : List ℕ) (r : ℕ) → is_row_touched s a c r ≡ false
    → Both (AreSameTables r) (find_id table_id c s) (find_id table_id c (apply s a))
