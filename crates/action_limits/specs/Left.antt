-- The most columns, the most rows and the greatest row id against their bounds, and what is left of
-- them where records, a column or a table go.
use Rattle.std.specs.Prelude.{ℕ, Bool, true, false, ◌-◌, ◌≡◌, ◌&&◌, cond, nat_lt, not, length, List, [], ◌∷◌}
use Rattle.std.specs.List.{list_all}
use Rattle.std.specs.Str.{bytes_eq}
use Rattle.doc_model.specs.declared.limit.LimitKind.TheVariants.{Columns, Rows, RowId}
use Rattle.doc_model.specs.declared.action.DocAction.{DocAction}
use Rattle.doc_model.specs.declared.action.DocAction.TheVariants.{BulkAdd, BulkRemove, AddTable, RemoveTable, AddColumn, RemoveColumn}
use Rattle.doc_model.specs.declared.action.Step.{Step}
use Rattle.doc_model.specs.declared.user_action.UserAction.{UserAction}
use Rattle.doc_model.specs.declared.user_action.UserAction.TheVariants as user
use Rattle.doc_model.specs.Counts.{bound_of, counts}
use Rattle.doc_model.specs.Document.{Document, Table}
use Rattle.doc_model.specs.MetadataIds.{columns_id, tables_id}
use Rattle.doc_readers.specs.Parts.{grid_at}
use Rattle.action_limits.specs.declared.limits.Counted.{Counted}

-- the maxima stand on the same sides of their bounds as those of the document
pub record TellsMaxima (e : Counted) (s : Document) : Type 0 where
  pub columns : nat_lt (bound_of Columns) e.columns ≡ nat_lt (bound_of Columns) (counts s).columns
  pub rows : nat_lt (bound_of Rows) e.rows ≡ nat_lt (bound_of Rows) (counts s).rows
  pub row_id : nat_lt (bound_of RowId) e.row_id ≡ nat_lt (bound_of RowId) (counts s).row_id

-- whether the action takes records, a column or a table away
abbrev pub takes_away : DocAction → Bool
takes_away (BulkRemove table rows) = true
takes_away (RemoveTable table) = true
takes_away (RemoveColumn table column) = true
takes_away _ = false

-- whether the table of this id goes
abbrev pub goes : DocAction → List ℕ → Bool
goes (RemoveTable table) id = bytes_eq id table
goes _ id = false

-- how many of its columns go
abbrev pub columns_removed : DocAction → List ℕ → ℕ
columns_removed (RemoveColumn table column) id = cond (bytes_eq id table) 1 0
columns_removed _ id = 0

-- the first number at the table of tables, the second at the table of columns, none elsewhere
abbrev pub number_at : List ℕ → ℕ → ℕ → ℕ
number_at id tables columns =
    cond (bytes_eq tables_id id) tables (cond (bytes_eq columns_id id) columns 0)

-- how many of its rows go
abbrev pub rows_removed : Document → DocAction → List ℕ → ℕ
rows_removed s (BulkRemove table rows) id = cond (bytes_eq id table) (length rows) 0
rows_removed s (RemoveTable table) id = number_at id 1 (length (grid_at s table).columns)
rows_removed s (RemoveColumn table column) id = number_at id 0 1
rows_removed s _ id = 0

-- the columns and the rows that are left of a table, none of one that goes
abbrev pub columns_left : DocAction → Table → ℕ
columns_left a t = cond (goes a t.id) 0 (length t.grid.columns - columns_removed a t.id)

abbrev pub rows_left : Document → DocAction → Table → ℕ
rows_left s a t = cond (goes a t.id) 0 (length t.grid.rows - rows_removed s a t.id)

-- whether the action brings records, columns or a table
abbrev pub is_growing : DocAction → Bool
is_growing (BulkAdd table rows ks) = true
is_growing (AddTable table row columns) = true
is_growing (AddColumn table d) = true
is_growing _ = false

-- whether the action leaves each table as many rows and columns as it has
abbrev pub is_quiet : DocAction → Bool
is_quiet a = not (is_growing a) && not (takes_away a)

-- each step but the first leaves each table as many rows and columns as it has
abbrev pub AreQuietLater : List Step → Type 0
AreQuietLater [] = Unit {0}
AreQuietLater (step ∷ steps) = list_all (λ (step : Step). is_quiet step.action) steps ≡ true

-- whether the action renames a table or a column
abbrev pub is_renaming : UserAction → Bool
is_renaming (user.RenameTable table new) = true
is_renaming (user.RenameColumn table column new) = true
is_renaming _ = false
