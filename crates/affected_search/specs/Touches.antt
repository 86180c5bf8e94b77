-- What an action does to what can be read, by the numbers of a graph.
use Rattle.std.specs.Prelude.{ℕ, Bool, true, false, not, ◌&&◌, ◌||◌, nat_eq, List, [], ◌∷◌, map, Option, Some, None, ◌≡◌, codes}
use Rattle.std.specs.List.{list_any}
use Rattle.std.specs.Option.{is_some}
use Rattle.cell_types.specs.declared.cell.Read.{Read}
use Rattle.doc_model.specs.declared.action.DocAction.{DocAction}
use Rattle.doc_model.specs.declared.action.DocAction.TheVariants.{BulkAdd, BulkUpdate, BulkRemove, AddTable, RemoveTable, RenameTable, AddColumn, RemoveColumn, RenameColumn, ModifyColumn}
use Rattle.doc_model.specs.declared.column.CellColumn.{CellColumn}
use Rattle.doc_model.specs.Column.{column_row}
use Rattle.doc_model.specs.Document.{Document}
use Rattle.doc_model.specs.MetadataIds.{columns_id, tables_id}
use Rattle.doc_model.specs.Touched.{column_described, columns_described, table_described}
use Rattle.affected_cells.specs.Touched.{Touch, cells_written, column_altered, is_touched, rows_come_or_go, rows_moved, table_altered, touched_by}
use Rattle.dep_graph.specs.declared.numbers.ColumnNumber.{ColumnNumber}
use Rattle.dep_graph.specs.declared.numbers.ReadNumber.{ReadNumber}
use Rattle.dep_graph.specs.declared.numbers.ReadNumber.TheVariants as read
use Rattle.dep_graph.specs.Sources.{read_source, source_in}

-- a touch of a table, or of one of its columns, in some rows or in all
pub record NumberTouch : Type 0 where
  pub table : ℕ
  pub column : Option ℕ
  pub rows : Option (List ℕ)

-- whether the column is touched in some row
abbrev pub is_column_touched : NumberTouch → ColumnNumber → Bool
is_column_touched m k =
    nat_eq k.table m.table && elim m.column [ None ↦ true | Some c ↦ nat_eq k.column c ]

-- whether the row is one of those that are touched
abbrev pub is_row_touched : NumberTouch → ℕ → Bool
is_row_touched m r = elim m.rows [ None ↦ true | Some rows ↦ list_any (nat_eq r) rows ]

-- whether the read is touched: which rows there are is read of a table as a whole. The values and
-- the rows that a lookup takes are not asked for: beside each of them a run reads a key column, or
-- which rows there are
abbrev pub touches_number : NumberTouch → ReadNumber → Bool
touches_number m (read.Cell d) = is_column_touched m d.column && is_row_touched m d.row
touches_number m (read.Key k) = is_column_touched m k
touches_number m (read.Rows t) = nat_eq t m.table && not (is_some m.column)
touches_number m _ = false

-- whether one of them touches the read
abbrev pub tells : List NumberTouch → ReadNumber → Bool
tells touches n = list_any (λ m. touches_number m n) touches

-- of reads that have numbers they tell, beside what they told, what these touches by name tell
abbrev pub AddsTouches : List (List ℕ) → List Touch → List NumberTouch → List NumberTouch → Type 0
AddsTouches names ms old new = (q : Read) (n : ReadNumber)
    → source_in names (read_source q) ≡ Some n
    → tells new n ≡ (tells old n || list_any (λ m. touched_by m q) ms)

-- of reads that have numbers they tell whether the action touches them
abbrev pub TellTouched : List (List ℕ) → Document → DocAction → List NumberTouch → Type 0
TellTouched names s a touches = (q : Read) (n : ReadNumber)
    → source_in names (read_source q) ≡ Some n → tells touches n ≡ is_touched s a q

-- what an action on records does to what can be read, and nothing of another
abbrev pub record_touches : DocAction → List Touch
record_touches (BulkAdd t rows ks) = rows_moved t rows
record_touches (BulkUpdate t rows ks) = map (λ (k : CellColumn). cells_written t k.id rows) ks
record_touches (BulkRemove t rows) = rows_moved t rows
record_touches _ = []

-- the same of one on tables
abbrev pub table_touches : Document → DocAction → List Touch
table_touches s (AddTable t row ds) =
    table_altered t ∷ rows_come_or_go tables_id (row ∷ [])
    ∷ rows_come_or_go columns_id (map column_row ds) ∷ []
table_touches s (RemoveTable t) =
    table_altered t ∷ rows_come_or_go tables_id (table_described s t)
    ∷ rows_come_or_go columns_id (columns_described s t) ∷ []
table_touches s (RenameTable t new) =
    table_altered t ∷ table_altered new
    ∷ cells_written tables_id (codes "tableId") (table_described s t) ∷ []
table_touches s _ = []

-- the same of one on columns
abbrev pub column_touches : Document → DocAction → List Touch
column_touches s (AddColumn t d) =
    column_altered t d.id ∷ rows_come_or_go columns_id (d.row ∷ []) ∷ []
column_touches s (RemoveColumn t c) =
    column_altered t c ∷ rows_come_or_go columns_id (column_described s t c) ∷ []
column_touches s (RenameColumn t c new) =
    column_altered t c ∷ column_altered t new
    ∷ cells_written columns_id (codes "colId") (column_described s t c) ∷ []
column_touches s (ModifyColumn t c info) =
    column_altered t c ∷ cells_written columns_id (codes "type") (column_described s t c)
    ∷ cells_written columns_id (codes "isFormula") (column_described s t c)
    ∷ cells_written columns_id (codes "formula") (column_described s t c) ∷ []
column_touches s _ = []
