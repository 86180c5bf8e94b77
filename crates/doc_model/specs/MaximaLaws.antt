-- The most columns, the most rows and the greatest row id of any table after an action, told from
-- the document before it.
use Rattle.std.specs.Prelude.{ℕ, ◌+◌, ◌-◌, true, cond, List, [], ◌∷◌, ◌++◌, map, length, ◌≡◌, Some, None}
use Rattle.std.specs.Str.{bytes_eq}
use Rattle.doc_model.specs.declared.action.DocAction.{DocAction}
use Rattle.doc_model.specs.declared.action.DocAction.TheVariants.{BulkAdd, BulkRemove, AddTable, RemoveTable, AddColumn, RemoveColumn}
use Rattle.doc_model.specs.MetadataIds.{tables_id, columns_id}
use Rattle.doc_model.specs.ByIds.{find_id, without_id}
use Rattle.doc_model.specs.Rows.{without}
use Rattle.doc_model.specs.Column.{column_id, column_row}
use Rattle.doc_model.specs.Document.{Table, Document, table_id}
use Rattle.doc_model.specs.Valid.{valid}
use Rattle.doc_model.specs.Apply.{apply}
use Rattle.doc_model.specs.Counts.{greatest, Counts, counts}
use Rattle.doc_model.specs.DocumentLaws.{IsWhole}

-- how many columns and rows a table has, and its greatest row id, 0 without rows
pub record Maxima : Type 0 where
  pub columns : ℕ
  pub rows : ℕ
  pub row_id : ℕ

-- those of so many columns and of these rows, in any order
abbrev pub maxima : ℕ → List ℕ → Maxima
maxima columns rows = record { columns = columns; rows = length rows; row_id = greatest rows }

-- the rows that a table tells, none where it is not there
abbrev pub rows_told : Document → List ℕ → (Table → List ℕ) → List ℕ
rows_told s table f = elim (find_id table_id table s) [ None ↦ [] | Some t ↦ f t ]

-- the row that describes a column, none where it is not there
abbrev pub row_of_column : List ℕ → Table → List ℕ
row_of_column c t = elim (find_id column_id c t.grid.columns) [ None ↦ [] | Some d ↦ d.row ∷ [] ]

-- the first rows at the table of tables, the second at the table of columns, none elsewhere
abbrev pub at_schema : List ℕ → List ℕ → List ℕ → List ℕ
at_schema id tables columns =
    cond (bytes_eq tables_id id) tables (cond (bytes_eq columns_id id) columns [])

-- the rows that an action puts into the table of this id
abbrev pub rows_in : DocAction → List ℕ → List ℕ
rows_in (BulkAdd table rows ks) id = cond (bytes_eq id table) rows []
rows_in (AddTable table row columns) id = at_schema id (row ∷ []) (map column_row columns)
rows_in (AddColumn table d) id = at_schema id [] (d.row ∷ [])
rows_in _ id = []

-- the rows that it takes out of the table of this id
abbrev pub rows_out : Document → DocAction → List ℕ → List ℕ
rows_out s (BulkRemove table rows) id = cond (bytes_eq id table) rows []
rows_out s (RemoveTable table) id =
    at_schema id (rows_told s table (λ t. t.row ∷ []))
    (rows_told s table (λ t. map column_row t.grid.columns))
rows_out s (RemoveColumn table column) id =
    at_schema id [] (rows_told s table (row_of_column column))
rows_out s _ id = []

-- how many columns the table has after it
abbrev pub columns_then : DocAction → Table → ℕ
columns_then (AddColumn table d) t = length t.grid.columns + cond (bytes_eq t.id table) 1 0
columns_then (RemoveColumn table column) t = length t.grid.columns - cond (bytes_eq t.id table) 1 0
columns_then _ t = length t.grid.columns

-- a table that stays: the rows that come and those that are left
abbrev pub maxima_then : Document → DocAction → Table → Maxima
maxima_then s a t =
    maxima (columns_then a t) (rows_in a t.id ++ without (rows_out s a t.id) t.grid.rows)

-- the tables that stay
abbrev pub staying : DocAction → List Table → List Table
staying (RemoveTable table) s = without_id table_id table s
staying _ s = s

-- a new table, which has no rows
abbrev pub new_maxima : DocAction → List Maxima
new_maxima (AddTable table row columns) = maxima (length columns) [] ∷ []
new_maxima _ = []

-- each table's after the action, in any order
abbrev pub maxima_after : Document → DocAction → List Maxima
maxima_after s a = new_maxima a ++ map (maxima_then s a) (staying a s)

-- the counts are the greatest of these
pub record AreGreatest (c : Counts) (ps : List Maxima) : Type 0 where
  pub columns : c.columns ≡ greatest (map (λ (p : Maxima). p.columns) ps)
  pub rows : c.rows ≡ greatest (map (λ (p : Maxima). p.rows) ps)
  pub row_id : c.row_id ≡ greatest (map (λ (p : Maxima). p.row_id) ps)

abbrev pub MaximaLaw : Type 0
MaximaLaw =
    (s : Document) (a : DocAction) → IsWhole s → valid s a ≡ true
    → AreGreatest (counts (apply s a)) (maxima_after s a)
