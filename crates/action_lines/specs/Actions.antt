-- Which JSON stands for a user action, and how it is read.
use Rattle.std.specs.Prelude.{◌≡◌, ℕ, List, Bool, true, false, Option}
use Rattle.serde_json.specs.Data.{Data, string, array, Items, no_items, item}
use Rattle.serde_json.specs.Find.{as_array}
use Rattle.doc_model.specs.declared.user_action.UserAction.{UserAction}
use Rattle.doc_model.specs.declared.user_action.UserAction.TheVariants.{Add, Update, Remove, AddTable, RemoveTable, RenameTable, AddColumn, RemoveColumn, RenameColumn, ModifyColumn}
use Rattle.action_lines.specs.declared.kinds.ActionKind.{ActionKind}
use Rattle.action_lines.specs.declared.kinds.ActionKind.TheVariants as kind
use Rattle.action_lines.specs.Steps.{◌>>=◌}
use Rattle.action_lines.specs.Items.{item_text, AreAll, given_from, AreGiven}
use Rattle.action_lines.specs.Kinds.{kind_text, kind_from}
use Rattle.action_lines.specs.Infos.{info_data, IsColumn}
use Rattle.action_lines.specs.RecordActions.{IsAdd, IsUpdate, IsRemove, add_from, update_from, remove_from}
use Rattle.action_lines.specs.SchemaActions.{add_table_from, remove_table_from, rename_table_from, add_column_from, remove_column_from, rename_column_from, modify_column_from}

-- [kind,table,..]
abbrev pub action_data : ActionKind → List ℕ → Items → Data
action_data k table rest = array (item (string (kind_text k)) (item (string table) rest))

abbrev pub add_kind : Bool → ActionKind
add_kind true = kind.AddRecord
add_kind false = kind.BulkAddRecord

abbrev pub update_kind : Bool → ActionKind
update_kind true = kind.UpdateRecord
update_kind false = kind.BulkUpdateRecord

abbrev pub remove_kind : Bool → ActionKind
remove_kind true = kind.RemoveRecord
remove_kind false = kind.BulkRemoveRecord

-- the JSON of a user action
abbrev pub IsAction : UserAction → Data → Type 0
IsAction (Add t single count has_row_ids cs) d =
    (rest : Items) × IsAdd single count has_row_ids cs rest
    × (d ≡ action_data (add_kind single) t rest)
IsAction (Update t single ids cs) d =
    (rest : Items) × IsUpdate single ids cs rest × (d ≡ action_data (update_kind single) t rest)
IsAction (Remove t single ids) d =
    (rest : Items) × IsRemove single ids rest × (d ≡ action_data (remove_kind single) t rest)
IsAction (AddTable t cs) d =
    (infos : Items) × AreAll IsColumn cs infos
    × (d ≡ action_data kind.AddTable t (item (array infos) no_items))
IsAction (RemoveTable t) d = d ≡ action_data kind.RemoveTable t no_items
IsAction (RenameTable t new) d = d ≡ action_data kind.RenameTable t (item (string new) no_items)
IsAction (AddColumn t c) d =
    d ≡ action_data kind.AddColumn t (item (string c.id) (item (info_data c) no_items))
IsAction (RemoveColumn t c) d = d ≡ action_data kind.RemoveColumn t (item (string c) no_items)
IsAction (RenameColumn t c new) d =
    d ≡ action_data kind.RenameColumn t (item (string c) (item (string new) no_items))
IsAction (ModifyColumn t c) d =
    d ≡ action_data kind.ModifyColumn t (item (string c.id) (item (info_data c) no_items))

-- the JSON of the user actions of a bundle: [action,..]
abbrev pub AreActions : List UserAction → Data → Type 0
AreActions = AreGiven IsAction false

-- ---- reading

-- by the kind, from the table and what stands behind it
abbrev pub kind_action_from : ActionKind → List ℕ → Items → Option UserAction
kind_action_from kind.AddRecord t rest = add_from true t rest
kind_action_from kind.BulkAddRecord t rest = add_from false t rest
kind_action_from kind.UpdateRecord t rest = update_from true t rest
kind_action_from kind.BulkUpdateRecord t rest = update_from false t rest
kind_action_from kind.RemoveRecord t rest = remove_from true t rest
kind_action_from kind.BulkRemoveRecord t rest = remove_from false t rest
kind_action_from kind.AddTable t rest = add_table_from t rest
kind_action_from kind.RemoveTable t rest = remove_table_from t rest
kind_action_from kind.RenameTable t rest = rename_table_from t rest
kind_action_from kind.AddColumn t rest = add_column_from t rest
kind_action_from kind.RemoveColumn t rest = remove_column_from t rest
kind_action_from kind.RenameColumn t rest = rename_column_from t rest
kind_action_from kind.ModifyColumn t rest = modify_column_from t rest

-- the user action that the JSON stands for
unfoldable pub action_from : Data → Option UserAction
action_from d = do
  items ← as_array d
  word ← item_text items
  table ← item_text word.1
  kind ← kind_from word.0
  kind_action_from kind table.0 table.1

-- the user actions that the JSON stands for
abbrev pub actions_from : Data → Option (List UserAction)
actions_from = given_from action_from false
