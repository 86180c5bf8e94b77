-- Actions on tables and columns: how what stands behind the table in their JSON is read.
use Rattle.std.specs.Prelude.{ℕ, List, false, Option, Some, None, if◌then◌else◌}
use Rattle.serde_json.specs.Data.{Items}
use Rattle.serde_json.specs.Find.{as_str}
use Rattle.doc_model.specs.declared.user_action.UserAction.{UserAction}
use Rattle.doc_model.specs.declared.user_action.UserAction.TheVariants.{AddTable, RemoveTable, RenameTable, AddColumn, RemoveColumn, RenameColumn, ModifyColumn}
use Rattle.doc_model.specs.declared.user_action.UserCol.{UserCol}
use Rattle.action_lines.specs.Steps.{◌>>=◌}
use Rattle.action_lines.specs.Items.{is_last, only_item, only_text, text_beside, given_from}
use Rattle.action_lines.specs.Infos.{info_from, column_from}

-- [info,..]
unfoldable pub add_table_from : List ℕ → Items → Option UserAction
add_table_from table rest = do
  infos ← only_item rest
  columns ← given_from column_from false infos
  Some (AddTable table columns)

-- nothing more
unfoldable pub remove_table_from : List ℕ → Items → Option UserAction
remove_table_from table rest = if is_last rest then Some (RemoveTable table) else None

-- new
unfoldable pub rename_table_from : List ℕ → Items → Option UserAction
rename_table_from table rest = do
  new ← only_text rest
  Some (RenameTable table new)

-- column, info
unfoldable pub beside_from : Items → Option UserCol
beside_from rest = do
  two ← text_beside rest
  info_from two.0 two.1

unfoldable pub add_column_from : List ℕ → Items → Option UserAction
add_column_from table rest = beside_from rest >>= λ column. Some (AddColumn table column)

unfoldable pub modify_column_from : List ℕ → Items → Option UserAction
modify_column_from table rest = beside_from rest >>= λ column. Some (ModifyColumn table column)

-- column
unfoldable pub remove_column_from : List ℕ → Items → Option UserAction
remove_column_from table rest = do
  column ← only_text rest
  Some (RemoveColumn table column)

-- column, new
unfoldable pub rename_column_from : List ℕ → Items → Option UserAction
rename_column_from table rest = do
  two ← text_beside rest
  new ← as_str two.1
  Some (RenameColumn table two.0 new)
