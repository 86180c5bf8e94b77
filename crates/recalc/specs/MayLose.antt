-- The cells among which those are looked for that an action loses: few enough that a record action
-- looks at rows and columns of its own alone, and at formula columns.
use Rattle.std.specs.Prelude.{ℕ, Bool, true, false, cond, not, ◌&&◌, ◌||◌, List, [], ◌∷◌, ◌++◌, filter, ◌≡◌}
use Rattle.std.specs.Str.{bytes_eq}
use Rattle.cell_types.specs.declared.cell.CellOld.{CellOld}
use Rattle.doc_model.specs.declared.action.DocAction.{DocAction}
use Rattle.doc_model.specs.declared.action.DocAction.TheVariants.{BulkAdd, BulkUpdate, BulkRemove, AddTable}
use Rattle.doc_model.specs.declared.column.ColDef.{ColDef}
use Rattle.doc_model.specs.Apply.{apply}
use Rattle.doc_model.specs.ByIds.{has_id}
use Rattle.doc_model.specs.Document.{Document}
use Rattle.doc_model.specs.DocumentLaws.{IsWhole}
use Rattle.doc_model.specs.MetadataIds.{tables_id, columns_id, is_schema_id}
use Rattle.doc_model.specs.Records.{given_id}
use Rattle.doc_model.specs.Rows.{has}
use Rattle.doc_model.specs.Touched.{names_table, columns_touched}
use Rattle.doc_model.specs.Valid.{valid}
use Rattle.doc_readers.specs.Parts.{grid_at}
use Rattle.recalc.specs.Current.{has_formula}
use Rattle.recalc.specs.Evaluated.{filled}
use Rattle.recalc.specs.Lost.{all_cells, is_lost, lost}
use Rattle.recalc.specs.Watched.{is_computed}

-- whether the action is one on records
abbrev pub is_record : DocAction → Bool
is_record (BulkAdd table rows ks) = true
is_record (BulkUpdate table rows ks) = true
is_record (BulkRemove table rows) = true
is_record _ = false

-- whether the action adds records or a table: then it loses no data cell, since what it adds is not
-- there yet
abbrev pub is_adding : DocAction → Bool
is_adding (BulkAdd table rows ks) = true
is_adding (AddTable table row columns) = true
is_adding _ = false

-- the table in which a record action writes or removes rows; those that it adds are not there yet
abbrev pub tables_written : DocAction → List (List ℕ)
tables_written (BulkUpdate table rows ks) = table ∷ []
tables_written (BulkRemove table rows) = table ∷ []
tables_written _ = []

-- the rows that it writes or removes
abbrev pub rows_written : DocAction → List ℕ
rows_written (BulkUpdate table rows ks) = rows
rows_written (BulkRemove table rows) = rows
rows_written _ = []

-- whether an action may lose data cells of the column
abbrev pub may_lose_column : DocAction → List ℕ → Bool
may_lose_column (BulkUpdate table rows ks) c = has_id given_id ks c
may_lose_column _ c = true

-- whether it may lose all rows of the table: a schema action those of its table, and in the table
-- of tables
abbrev pub may_lose_all : DocAction → List ℕ → Bool
may_lose_all a t = not (is_record a) && (names_table a t || bytes_eq tables_id t)

-- the rows of the table that it may lose, where it may not lose all
abbrev pub rows_to_lose : Document → DocAction → List ℕ → List ℕ
rows_to_lose v a t =
    cond (names_table a t) (rows_written a) []
    ++ cond (bytes_eq columns_id t) (columns_touched v a) []

abbrev pub may_lose_row : Document → DocAction → List ℕ → ℕ → Bool
may_lose_row v a t r =
    not (is_adding a) && (may_lose_all a t || has (rows_to_lose v a t) r)

-- whether an action may lose a cell of the document with its values in place
abbrev pub may_lose : Document → DocAction → CellOld → Bool
may_lose v a o =
    is_computed v o.cell
    || (may_lose_column a o.cell.column && may_lose_row v a o.cell.table o.cell.row)

-- whether it may lose data cells of the table
abbrev pub may_lose_data : DocAction → List ℕ → Bool
may_lose_data a t =
    not (is_adding a) && (names_table a t || (not (is_record a) && is_schema_id t))

-- whether it may lose cells of the table
abbrev pub may_lose_in : Document → DocAction → List ℕ → Bool
may_lose_in v a t = may_lose_data a t || has_formula (grid_at v t).columns

-- whether it may lose cells of a column
abbrev pub may_lose_at : DocAction → ColDef → Bool
may_lose_at a d = d.info.is_formula || may_lose_column a d.id

-- these cells are all that can be lost
abbrev pub MayLoseLaw : Type 0
MayLoseLaw =
    (s : Document) (a : DocAction) → IsWhole s → valid s a ≡ true
    → lost s (apply s a) a
    ≡ filter (is_lost (filled (apply s a)) a)
    (filter (may_lose (filled s) a) (all_cells (filled s)))
