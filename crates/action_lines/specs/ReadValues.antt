-- How a value is read from JSON.
use Rattle.std.specs.Prelude.{ℕ, ℤ, List, false, Option, Some, None, option_map, if◌then◌else◌}
use Rattle.serde_json.specs.Data.{Data, null, boolean, number, string, array, object, Items}
use Rattle.cell_types.specs.declared.value.CellItem.{CellItem}
use Rattle.cell_types.specs.declared.value.CellItem.TheVariants as one
use Rattle.cell_types.specs.declared.value.CellValue.{CellValue}
use Rattle.cell_types.specs.declared.value.CellValue.TheVariants as value
use Rattle.cell_types.specs.declared.value.RowRef.{RowRef}
use Rattle.cell_types.specs.declared.value.RowSet.{RowSet}
use Rattle.action_lines.specs.declared.marks.Mark.{Mark}
use Rattle.action_lines.specs.declared.marks.Mark.TheVariants as mark
use Rattle.action_lines.specs.Steps.{◌>>=◌}
use Rattle.action_lines.specs.Items.{item_text, is_last, all_from, only_item, only_text, text_beside, given_from}
use Rattle.action_lines.specs.Numbers.{int_from, row_from}
use Rattle.action_lines.specs.Marks.{mark_from, error_from}
use Rattle.action_lines.specs.Values.{has_name_length}

abbrev pub name_from : List ℕ → Option (List ℕ)
name_from t = if has_name_length t then Some t else None

-- behind the mark of a date
unfoldable pub date_from : Items → Option ℤ
date_from ds = only_item ds >>= λ d. int_from d

-- behind the mark of a row
unfoldable pub ref_from : Items → Option RowRef
ref_from ds = do
  two ← text_beside ds
  row ← row_from two.1
  name ← name_from two.0
  Some (record { table = name; row = row })

-- behind the mark of a set of rows
unfoldable pub set_from : Items → Option RowSet
set_from ds = do
  two ← text_beside ds
  name ← name_from two.0
  rows ← given_from row_from false two.1
  Some (record { table = name; rows = rows })

-- behind the mark of an error
unfoldable pub error_value_from : Items → Option CellValue
error_value_from ds = do
  name ← only_text ds
  kind ← error_from name
  Some (value.Err kind)

abbrev pub marked_item_from : Mark → Items → Option CellItem
marked_item_from mark.Date ds = option_map one.Date (date_from ds)
marked_item_from mark.Rec ds = option_map one.Rec (ref_from ds)
marked_item_from mark.Rows ds = None
marked_item_from mark.List ds = None
marked_item_from mark.Err ds = None
marked_item_from mark.Censored ds = None

abbrev pub array_item_from : Items → Option CellItem
array_item_from ds = item_text ds >>= λ name. mark_from name.0 >>= λ m. marked_item_from m name.1

-- the item of a list that the JSON stands for
unfoldable pub item_from : Data → Option CellItem
item_from null = Some one.Null
item_from (boolean b) = Some (one.Bool b)
item_from (number n) = option_map one.Int (int_from (number n))
item_from (string t) = Some (one.Text t)
item_from (array ds) = array_item_from ds
item_from (object ms) = None

abbrev pub marked_value_from : Mark → Items → Option CellValue
marked_value_from mark.Date ds = option_map value.Date (date_from ds)
marked_value_from mark.Rec ds = option_map value.Rec (ref_from ds)
marked_value_from mark.Rows ds = option_map value.RecSet (set_from ds)
marked_value_from mark.List ds = option_map value.List (all_from item_from ds)
marked_value_from mark.Err ds = error_value_from ds
marked_value_from mark.Censored ds = if is_last ds then Some value.Censored else None

abbrev pub array_value_from : Items → Option CellValue
array_value_from ds = item_text ds >>= λ name. mark_from name.0 >>= λ m. marked_value_from m name.1

-- the value that the JSON stands for
unfoldable pub value_from : Data → Option CellValue
value_from null = Some value.Null
value_from (boolean b) = Some (value.Bool b)
value_from (number n) = option_map value.Int (int_from (number n))
value_from (string t) = Some (value.Text t)
value_from (array ds) = array_value_from ds
value_from (object ms) = None
