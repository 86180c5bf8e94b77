-- Records as they are printed: the second form, keys sorted.
use Rattle.std.specs.Prelude.{ℕ, List, codes}
use Rattle.serde_json.specs.Data.{Data, string, object, Items, no_items, item, no_members, member}
use Rattle.serde_json.specs.Written.{compact_text}
use Rattle.doc_model.specs.declared.action.DocAction.{DocAction}
use Rattle.doc_model.specs.declared.action.DocAction.TheVariants.{BulkAdd, BulkUpdate, BulkRemove, AddTable, RemoveTable, RenameTable, AddColumn, RemoveColumn, RenameColumn, ModifyColumn}
use Rattle.action_lines.specs.Actions.{action_data}
use Rattle.action_lines.specs.Numbers.{row_data}
use Rattle.grist_json.specs.Actions.{columns_data}
use Rattle.grist_json.specs.Replies.{number_data}
use Rattle.grist_json.specs.Values.{array_of, rows_data}
use Rattle.record_lines.specs.declared.records.Kept.{Kept}
use Rattle.record_lines.specs.DocActions.{kind_for, named_table}
use Rattle.record_lines.specs.Infos.{info_data, added_data, column_data}

-- what stands behind the table
abbrev pub behind_data : DocAction → Items
behind_data (BulkAdd t rows cs) = item (rows_data rows) (item (columns_data cs) no_items)
behind_data (BulkUpdate t rows cs) = item (rows_data rows) (item (columns_data cs) no_items)
behind_data (BulkRemove t rows) = item (rows_data rows) no_items
behind_data (AddTable t row cs) = item (array_of column_data cs) (item (row_data row) no_items)
behind_data (RemoveTable t) = no_items
behind_data (RenameTable t new) = item (string new) no_items
behind_data (AddColumn t c) = item (string c.id) (item (added_data c) no_items)
behind_data (RemoveColumn t c) = item (string c) no_items
behind_data (RenameColumn t c new) = item (string c) (item (string new) no_items)
behind_data (ModifyColumn t c info) = item (string c) (item (info_data info) no_items)

abbrev pub doc_action_data : DocAction → Data
doc_action_data a = action_data (kind_for a) (named_table a) (behind_data a)

abbrev pub doc_actions_data : List DocAction → Data
doc_actions_data actions = array_of doc_action_data actions

-- {"actions":[action,..],"number":n,"version":2}
abbrev pub record_data : ℕ → List DocAction → Data
record_data n actions =
    object (member (codes "actions") (doc_actions_data actions)
    (member (codes "number") (number_data n)
    (member (codes "version") (number_data 2) no_members)))

-- the record of that number and these actions
abbrev pub kept : ℕ → List DocAction → Kept
kept n actions = record { number = n; actions = actions }

-- the line of a record
unfoldable pub record_text : ℕ → List DocAction → List ℕ
record_text n actions = compact_text (record_data n actions)
