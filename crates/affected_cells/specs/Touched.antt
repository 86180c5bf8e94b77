-- The reads that an action touches.
use Rattle.std.specs.Prelude.{ℕ, Bool, false, ◌&&◌, List, [], ◌∷◌, map, codes}
use Rattle.std.specs.List.{list_any}
use Rattle.std.specs.Str.{bytes_eq}
use Rattle.cell_types.specs.declared.cell.Read.{Read}
use Rattle.cell_types.specs.declared.cell.Read.TheVariants.{Cell, Key, Rows}
use Rattle.doc_model.specs.declared.action.DocAction.{DocAction}
use Rattle.doc_model.specs.declared.action.DocAction.TheVariants.{BulkAdd, BulkUpdate, BulkRemove, AddTable, RemoveTable, RenameTable, AddColumn, RemoveColumn, RenameColumn, ModifyColumn}
use Rattle.doc_model.specs.declared.column.CellColumn.{CellColumn}
use Rattle.doc_model.specs.Column.{column_row}
use Rattle.doc_model.specs.Document.{Document}
use Rattle.doc_model.specs.MetadataIds.{tables_id, columns_id}
use Rattle.doc_model.specs.Rows.{has}
use Rattle.doc_model.specs.Touched.{column_described, columns_described, table_described}

-- what an action does to what can be read
pub data Touch : Type 0 where
  rows_come_or_go : List ℕ → List ℕ → Touch  -- of a table
  cells_written : List ℕ → List ℕ → List ℕ → Touch  -- of a table, a column and rows
  column_altered : List ℕ → List ℕ → Touch  -- of a table and a column
  table_altered : List ℕ → Touch

abbrev pub touched_by : Touch → Read → Bool
touched_by (rows_come_or_go t rows) (Cell d) = bytes_eq d.table t && has rows d.row
touched_by (rows_come_or_go t rows) (Key u c) = bytes_eq u t
touched_by (rows_come_or_go t rows) (Rows u) = bytes_eq u t
touched_by (cells_written t k rows) (Cell d) =
    bytes_eq d.table t && (bytes_eq d.column k && has rows d.row)
touched_by (cells_written t k rows) (Key u c) = bytes_eq u t && bytes_eq c k
touched_by (cells_written t k rows) (Rows u) = false
touched_by (column_altered t k) (Cell d) = bytes_eq d.table t && bytes_eq d.column k
touched_by (column_altered t k) (Key u c) = bytes_eq u t && bytes_eq c k
touched_by (column_altered t k) (Rows u) = false
touched_by (table_altered t) (Cell d) = bytes_eq d.table t
touched_by (table_altered t) (Key u c) = bytes_eq u t
touched_by (table_altered t) (Rows u) = bytes_eq u t

-- rows of a table come or go; where there are none, nothing is touched
abbrev pub rows_moved : List ℕ → List ℕ → List Touch
rows_moved t [] = []
rows_moved t (r ∷ rows) = rows_come_or_go t (r ∷ rows) ∷ []

-- what each action does; a schema action also writes, adds and removes its metadata rows
abbrev pub touches : Document → DocAction → List Touch
touches s (BulkAdd t rows ks) = rows_moved t rows
touches s (BulkUpdate t rows ks) = map (λ (k : CellColumn). cells_written t k.id rows) ks
touches s (BulkRemove t rows) = rows_moved t rows
touches s (AddTable t row ds) =
    table_altered t ∷ rows_come_or_go tables_id (row ∷ [])
    ∷ rows_come_or_go columns_id (map column_row ds) ∷ []
touches s (RemoveTable t) =
    table_altered t ∷ rows_come_or_go tables_id (table_described s t)
    ∷ rows_come_or_go columns_id (columns_described s t) ∷ []
touches s (RenameTable t new) =
    table_altered t ∷ table_altered new
    ∷ cells_written tables_id (codes "tableId") (table_described s t) ∷ []
touches s (AddColumn t d) = column_altered t d.id ∷ rows_come_or_go columns_id (d.row ∷ []) ∷ []
touches s (RemoveColumn t c) =
    column_altered t c ∷ rows_come_or_go columns_id (column_described s t c) ∷ []
touches s (RenameColumn t c new) =
    column_altered t c ∷ column_altered t new
    ∷ cells_written columns_id (codes "colId") (column_described s t c) ∷ []
touches s (ModifyColumn t c info) =
    column_altered t c ∷ cells_written columns_id (codes "type") (column_described s t c)
    ∷ cells_written columns_id (codes "isFormula") (column_described s t c)
    ∷ cells_written columns_id (codes "formula") (column_described s t c) ∷ []

-- whether the action touches the read
abbrev pub is_touched : Document → DocAction → Read → Bool
is_touched s a q = list_any (λ m. touched_by m q) (touches s a)
