-- The document actions that a user action stands for.
use Rattle.std.specs.Prelude.{ℕ, suc, zero, ℤ, ◌+◌, true, false, cond, List, [], ◌∷◌, ◌++◌, map, length, max, Some, None, unwrap_or}
use Rattle.std.specs.Str.{bytes_eq}
use Rattle.cell_types.specs.declared.column_type.ColType.{ColType}
use Rattle.cell_types.specs.declared.column_type.ColType.TheVariants as type
use Rattle.cell_types.specs.Conversion.{fit}
use Rattle.cell_types.specs.Reference.{row_number}
use Rattle.doc_model.specs.declared.action.DocAction.{DocAction}
use Rattle.doc_model.specs.declared.action.DocAction.TheVariants as action
use Rattle.doc_model.specs.declared.action.Step.{Step}
use Rattle.doc_model.specs.declared.column.CellColumn.{CellColumn}
use Rattle.doc_model.specs.declared.column.ColDef.{ColDef}
use Rattle.doc_model.specs.declared.user_action.UserAction.{UserAction}
use Rattle.doc_model.specs.declared.user_action.UserAction.TheVariants as user
use Rattle.doc_model.specs.declared.user_action.UserCol.{UserCol}
use Rattle.doc_model.specs.declared.user_action.UserColumn.{UserColumn}
use Rattle.doc_model.specs.ByIds.{find_id}
use Rattle.doc_model.specs.Column.{column_id}
use Rattle.doc_model.specs.Counts.{greatest}
use Rattle.doc_model.specs.Document.{Document, table_id}
use Rattle.doc_model.specs.Grid.{Grid}
use Rattle.doc_model.specs.MetadataIds.{tables_id, columns_id}
use Rattle.doc_model.specs.ViewEdits.{if_any}
use Rattle.doc_readers.specs.Parts.{grid_at}
use Rattle.name_rules.specs.FreeName.{free_name}
use Rattle.user_actions.specs.Columns.{info_said, new_info}
use Rattle.user_actions.specs.Marked.{direct}
use Rattle.user_actions.specs.Modified.{modified}
use Rattle.user_actions.specs.References.{clearings, led_to, referrers}
use Rattle.user_actions.specs.ResourceSteps.{columns_moved, tables_moved}

-- the greatest row of a table, 0 where it has none
abbrev pub last_row : Document → List ℕ → ℕ
last_row s table = greatest (grid_at s table).rows

-- so many numbers after this one
abbrev pub numbers_after : ℕ → ℕ → List ℕ
numbers_after n zero = []
numbers_after n (suc count) = (n + 1) ∷ numbers_after (n + 1) count

-- the type of a column
abbrev pub type_in : Grid ColDef → List ℕ → ColType
type_in g c = elim (find_id column_id c g.columns) [ None ↦ type.Any | Some d ↦ d.info.ty ]

-- the given values as the column holds them
abbrev pub fitted : Grid ColDef → UserColumn → CellColumn
fitted g k = record { id = k.id; values = map (fit (type_in g k.id)) k.values }

abbrev pub all_fitted : Document → List ℕ → List UserColumn → List CellColumn
all_fitted s table ks = map (fitted (grid_at s table)) ks

-- row ids as they were written
abbrev pub row_ids : List ℤ → List ℕ
row_ids rows = map (λ n. unwrap_or (row_number n) 0) rows

-- a new column beside those of these ids, which that row describes
abbrev pub new_column : List (List ℕ) → ℕ → UserCol → ColDef
new_column taken row c =
    record { id = free_name taken c.id; info = info_said (new_info c) c; row = row }

-- new columns, each beside those before it, and the rows after that one
abbrev pub new_columns : List (List ℕ) → ℕ → List UserCol → List ColDef
new_columns taken row [] = []
new_columns taken row (c ∷ cs) =
    new_column taken (row + 1) c ∷ new_columns (taken ++ free_name taken c.id ∷ []) (row + 1) cs

-- the ids of all tables, and of a table's columns
abbrev pub table_ids : Document → List (List ℕ)
table_ids s = map table_id s

abbrev pub column_ids : Document → List ℕ → List (List ℕ)
column_ids s table = map column_id (grid_at s table).columns

-- a new column behind the others
abbrev pub column_said : Document → List ℕ → UserCol → ColDef
column_said s table c = new_column (column_ids s table) (last_row s columns_id + 1) c

-- a new table of new columns
abbrev pub table_said : Document → List ℕ → List UserCol → DocAction
table_said s table cs =
    action.AddTable (free_name (table_ids s) table) (last_row s tables_id + 1)
    (new_columns [] (last_row s columns_id) cs)

-- a table under a new id, then the columns that refer to it, and the resources that name it
abbrev pub renaming : Document → List ℕ → List ℕ → List Step
renaming s table new =
    direct (action.RenameTable table new) ∷ map (led_to new) (referrers s table new true)
    ++ tables_moved s table new

-- a column under a new id, and then the resources that list it
abbrev pub column_renaming : Document → List ℕ → List ℕ → List ℕ → List Step
column_renaming s table column new =
    direct (action.RenameColumn table column new) ∷ columns_moved s table column new

-- the document actions of a user action; a rename to the own id is none
abbrev pub steps_of : Document → UserAction → List Step
steps_of s (user.Add table single count has_row_ids ks) =
    direct (action.BulkAdd table (numbers_after (last_row s table) count) (all_fitted s table ks))
    ∷ []
steps_of s (user.Update table single rows ks) =
    if_any (row_ids rows) (direct (action.BulkUpdate table (row_ids rows) (all_fitted s table ks)))
steps_of s (user.Remove table single rows) =
    direct (action.BulkRemove table (row_ids rows))
    ∷ clearings s table (row_ids rows) (referrers s table table false)
steps_of s (user.AddTable table cs) = direct (table_said s table cs) ∷ []
steps_of s (user.RemoveTable table) = direct (action.RemoveTable table) ∷ []
steps_of s (user.RenameTable table new) =
    cond (bytes_eq table new) [] (renaming s table (free_name (table_ids s) new))
steps_of s (user.AddColumn table c) = direct (action.AddColumn table (column_said s table c)) ∷ []
steps_of s (user.RemoveColumn table column) = direct (action.RemoveColumn table column) ∷ []
steps_of s (user.RenameColumn table column new) =
    cond (bytes_eq column new) []
    (column_renaming s table column (free_name (column_ids s table) new))
steps_of s (user.ModifyColumn table c) = modified table (grid_at s table) c

-- the greatest of the new rows of an action, 0 where it makes none
abbrev pub last_new_row : Document → UserAction → ℕ
last_new_row s (user.Add table single count has_row_ids ks) = last_row s table + count
last_new_row s (user.AddTable table cs) =
    max (last_row s tables_id + 1) (last_row s columns_id + length cs)
last_new_row s (user.AddColumn table c) = last_row s columns_id + 1
last_new_row s _ = 0
