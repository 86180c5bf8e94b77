-- What user actions are about.
use Rattle.std.specs.Prelude.{ℕ, Bool, true, false, List}
use Rattle.doc_model.specs.declared.user_action.UserAction.{UserAction}
use Rattle.doc_model.specs.declared.user_action.UserAction.TheVariants.{Add, Update, Remove, AddTable, RemoveTable, RenameTable, AddColumn, RemoveColumn, RenameColumn, ModifyColumn}

-- whether the action makes rows, of its table or of those that describe tables and columns
abbrev pub makes_rows : UserAction → Bool
makes_rows (Add table single count has_row_ids ks) = true
makes_rows (AddTable table cs) = true
makes_rows (AddColumn table c) = true
makes_rows _ = false

-- whether the action is about rows
abbrev pub is_about_rows : UserAction → Bool
is_about_rows (Add table single count has_row_ids ks) = true
is_about_rows (Update table single rows ks) = true
is_about_rows (Remove table single rows) = true
is_about_rows _ = false

-- the table that a user action names
abbrev pub table_of : UserAction → List ℕ
table_of (Add table single count has_row_ids ks) = table
table_of (Update table single rows ks) = table
table_of (Remove table single rows) = table
table_of (AddTable table cs) = table
table_of (RemoveTable table) = table
table_of (RenameTable table new) = table
table_of (AddColumn table c) = table
table_of (RemoveColumn table column) = table
table_of (RenameColumn table column new) = table
table_of (ModifyColumn table c) = table
