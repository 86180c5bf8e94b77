-- How a document action is read from JSON.
use Rattle.std.specs.Prelude.{ℕ, List, false, length, Option, Some, None, if◌then◌else◌}
use Rattle.serde_json.specs.Data.{Data, Items}
use Rattle.serde_json.specs.Find.{as_array, as_str}
use Rattle.doc_model.specs.declared.action.DocAction.{DocAction}
use Rattle.doc_model.specs.declared.action.DocAction.TheVariants.{BulkAdd, BulkUpdate, BulkRemove, AddTable, RemoveTable, RenameTable, AddColumn, RemoveColumn, RenameColumn, ModifyColumn}
use Rattle.doc_model.specs.declared.column.CellColumn.{CellColumn}
use Rattle.doc_model.specs.declared.column.ColDef.{ColDef}
use Rattle.doc_model.specs.declared.column.ColInfo.{ColInfo}
use Rattle.action_lines.specs.declared.kinds.ActionKind.{ActionKind}
use Rattle.action_lines.specs.declared.kinds.ActionKind.TheVariants as kind
use Rattle.action_lines.specs.Columns.{columns_in}
use Rattle.action_lines.specs.Items.{item_text, is_last, only_item, two_items, only_text, text_beside, given_from}
use Rattle.action_lines.specs.Kinds.{kind_from}
use Rattle.action_lines.specs.Numbers.{row_from}
use Rattle.action_lines.specs.ReadValues.{name_from}
use Rattle.action_lines.specs.Steps.{◌>>=◌}
use Rattle.record_lines.specs.Columns.{named_from}
use Rattle.record_lines.specs.Infos.{info_from, added_from, column_from}

-- row ids, and the columns with their cells
unfoldable pub cells_from : Items → Option (List ℕ × List CellColumn)
cells_from rest = do
  two ← two_items rest
  rows ← given_from row_from false two.0
  given ← columns_in false (length rows) two.1
  columns ← named_from given
  Some (rows, columns)

-- row ids alone
unfoldable pub rows_from : Items → Option (List ℕ)
rows_from rest = only_item rest >>= λ ids. given_from row_from false ids

-- columns, and the row that describes their table
unfoldable pub table_from : Items → Option (List ColDef × ℕ)
table_from rest = do
  two ← two_items rest
  columns ← given_from column_from false two.0
  row ← row_from two.1
  Some (columns, row)

-- a name alone
unfoldable pub only_name : Items → Option (List ℕ)
only_name rest = only_text rest >>= λ t. name_from t

-- two names
unfoldable pub two_names : Items → Option (List ℕ × List ℕ)
two_names rest = do
  two ← text_beside rest
  first ← name_from two.0
  text ← as_str two.1
  second ← name_from text
  Some (first, second)

-- a column's name, and what is said of it
unfoldable pub added_column : Items → Option ColDef
added_column rest = do
  two ← text_beside rest
  id ← name_from two.0
  added_from id two.1

unfoldable pub named_info : Items → Option (List ℕ × ColInfo)
named_info rest = do
  two ← text_beside rest
  id ← name_from two.0
  info ← info_from two.1
  Some (id, info)

-- by the word, from the table and what stands behind it
abbrev pub kind_action_from : ActionKind → List ℕ → Items → Option DocAction
kind_action_from kind.BulkAddRecord t rest = cells_from rest >>= λ p. Some (BulkAdd t p.0 p.1)
kind_action_from kind.BulkUpdateRecord t rest =
    cells_from rest >>= λ p. Some (BulkUpdate t p.0 p.1)
kind_action_from kind.BulkRemoveRecord t rest = rows_from rest >>= λ rows. Some (BulkRemove t rows)
kind_action_from kind.AddTable t rest = table_from rest >>= λ p. Some (AddTable t p.1 p.0)
kind_action_from kind.RemoveTable t rest = if is_last rest then Some (RemoveTable t) else None
kind_action_from kind.RenameTable t rest = only_name rest >>= λ new. Some (RenameTable t new)
kind_action_from kind.AddColumn t rest = added_column rest >>= λ c. Some (AddColumn t c)
kind_action_from kind.RemoveColumn t rest = only_name rest >>= λ c. Some (RemoveColumn t c)
kind_action_from kind.RenameColumn t rest =
    two_names rest >>= λ p. Some (RenameColumn t p.0 p.1)
kind_action_from kind.ModifyColumn t rest = named_info rest >>= λ p. Some (ModifyColumn t p.0 p.1)
kind_action_from kind.AddRecord t rest = None
kind_action_from kind.UpdateRecord t rest = None
kind_action_from kind.RemoveRecord t rest = None

-- the document action that the JSON stands for
unfoldable pub doc_action_from : Data → Option DocAction
doc_action_from d = do
  items ← as_array d
  word ← item_text items
  table ← item_text word.1
  kind ← kind_from word.0
  name ← name_from table.0
  kind_action_from kind name table.1
