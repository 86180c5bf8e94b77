-- Which JSON stands for a document action.
use Rattle.std.specs.Prelude.{◌≡◌, ℕ, List, true, length}
use Rattle.serde_json.specs.Data.{Data, string, array, object, Items, no_items, item, Members}
use Rattle.doc_model.specs.declared.action.DocAction.{DocAction}
use Rattle.doc_model.specs.declared.action.DocAction.TheVariants.{BulkAdd, BulkUpdate, BulkRemove, AddTable, RemoveTable, RenameTable, AddColumn, RemoveColumn, RenameColumn, ModifyColumn}
use Rattle.doc_model.specs.declared.column.CellColumn.{CellColumn}
use Rattle.action_lines.specs.declared.kinds.ActionKind.{ActionKind}
use Rattle.action_lines.specs.declared.kinds.ActionKind.TheVariants as kind
use Rattle.action_lines.specs.Actions.{action_data}
use Rattle.action_lines.specs.Items.{AreAll}
use Rattle.action_lines.specs.Numbers.{IsRow, is_row, row_data}
use Rattle.action_lines.specs.Values.{has_name_length}
use Rattle.record_lines.specs.Columns.{AreNamed}
use Rattle.record_lines.specs.Infos.{is_type, is_column, IsColumn, info_data, added_data}

-- the word that it begins with
abbrev pub kind_for : DocAction → ActionKind
kind_for (BulkAdd t rows cs) = kind.BulkAddRecord
kind_for (BulkUpdate t rows cs) = kind.BulkUpdateRecord
kind_for (BulkRemove t rows) = kind.BulkRemoveRecord
kind_for (AddTable t row cs) = kind.AddTable
kind_for (RemoveTable t) = kind.RemoveTable
kind_for (RenameTable t new) = kind.RenameTable
kind_for (AddColumn t c) = kind.AddColumn
kind_for (RemoveColumn t c) = kind.RemoveColumn
kind_for (RenameColumn t c new) = kind.RenameColumn
kind_for (ModifyColumn t c info) = kind.ModifyColumn

-- the table that it names first
abbrev pub named_table : DocAction → List ℕ
named_table (BulkAdd t rows cs) = t
named_table (BulkUpdate t rows cs) = t
named_table (BulkRemove t rows) = t
named_table (AddTable t row cs) = t
named_table (RemoveTable t) = t
named_table (RenameTable t new) = t
named_table (AddColumn t c) = t
named_table (RemoveColumn t c) = t
named_table (RenameColumn t c new) = t
named_table (ModifyColumn t c info) = t

-- [row,..],{col:[value,..]}
pub record AreCells (rows : List ℕ) (cs : List CellColumn) (rest : Items) : Type 0 where
  pub ids : Items
  pub members : Members
  pub given : AreAll IsRow rows ids
  pub columns : AreNamed (length rows) cs members
  pub whole : rest ≡ item (array ids) (item (object members) no_items)

-- what stands behind its table
abbrev pub IsBehind : DocAction → Items → Type 0
IsBehind (BulkAdd t rows cs) rest = AreCells rows cs rest
IsBehind (BulkUpdate t rows cs) rest = AreCells rows cs rest
IsBehind (BulkRemove t rows) rest =
    (ids : Items) × AreAll IsRow rows ids × (rest ≡ item (array ids) no_items)
IsBehind (AddTable t row cs) rest =
    (infos : Items) × AreAll IsColumn cs infos × (is_row row ≡ true)
    × (rest ≡ item (array infos) (item (row_data row) no_items))
IsBehind (RemoveTable t) rest = rest ≡ no_items
IsBehind (RenameTable t new) rest =
    (has_name_length new ≡ true) × (rest ≡ item (string new) no_items)
IsBehind (AddColumn t c) rest =
    (is_column c ≡ true) × (rest ≡ item (string c.id) (item (added_data c) no_items))
IsBehind (RemoveColumn t c) rest =
    (has_name_length c ≡ true) × (rest ≡ item (string c) no_items)
IsBehind (RenameColumn t c new) rest =
    (has_name_length c ≡ true) × (has_name_length new ≡ true)
    × (rest ≡ item (string c) (item (string new) no_items))
IsBehind (ModifyColumn t c info) rest =
    (has_name_length c ≡ true) × (is_type info.ty ≡ true)
    × (rest ≡ item (string c) (item (info_data info) no_items))

-- the JSON of a document action: [word,table,..]
pub record IsDocAction (a : DocAction) (d : Data) : Type 0 where
  pub rest : Items
  pub named : has_name_length (named_table a) ≡ true
  pub behind : IsBehind a rest
  pub whole : d ≡ action_data (kind_for a) (named_table a) rest
