-- Actions on records: what stands behind the table in their JSON.
use Rattle.std.specs.Prelude.{◌≡◌, ◌^◌, ℕ, ℤ, List, Bool, true, nat_lt, length, Option, Some, None, is_some, if◌then◌else◌}
use Rattle.std.specs.List.{list_any}
use Rattle.serde_json.specs.Data.{Data, object, Items, no_items, item, Members}
use Rattle.doc_model.specs.declared.user_action.UserAction.{UserAction}
use Rattle.doc_model.specs.declared.user_action.UserAction.TheVariants.{Add, Update, Remove}
use Rattle.doc_model.specs.declared.user_action.UserColumn.{UserColumn}
use Rattle.action_lines.specs.Steps.{◌>>=◌}
use Rattle.action_lines.specs.Items.{only_item, two_items, given_from, AreGiven}
use Rattle.action_lines.specs.Numbers.{int_from, IsInt, new_row_from, IsNewRow}
use Rattle.action_lines.specs.Columns.{AreColumns, columns_in}

-- the number of rows fits 32 bits
abbrev pub is_count : ℕ → Bool
is_count n = nat_lt n (2 ^ 32)

-- some row was given by its id
abbrev pub is_explicit : List (Option ℤ) → Bool
is_explicit ids = list_any is_some ids

-- row,{col:value} or [row,..],{col:[value,..]}: so many rows and these columns are added
pub record IsAdd (single : Bool) (count : ℕ) (has_row_ids : Bool) (columns : List UserColumn)
    (rest : Items) : Type 0 where
  pub ids : List (Option ℤ)
  pub rows : Data
  pub members : Members
  pub given : AreGiven IsNewRow single ids rows
  pub counted : length ids ≡ count
  pub few : is_count count ≡ true
  pub told : is_explicit ids ≡ has_row_ids
  pub filled : AreColumns single count None columns members
  pub whole : rest ≡ item rows (item (object members) no_items)

-- the same for rows that are there
pub record IsUpdate (single : Bool) (ids : List ℤ) (columns : List UserColumn) (rest : Items)
    : Type 0 where
  pub rows : Data
  pub members : Members
  pub given : AreGiven IsInt single ids rows
  pub filled : AreColumns single (length ids) None columns members
  pub whole : rest ≡ item rows (item (object members) no_items)

-- row or [row,..]
pub record IsRemove (single : Bool) (ids : List ℤ) (rest : Items) : Type 0 where
  pub rows : Data
  pub given : AreGiven IsInt single ids rows
  pub whole : rest ≡ item rows no_items

-- ---- reading

abbrev pub count_from : List (Option ℤ) → Option ℕ
count_from ids = if is_count (length ids) then Some (length ids) else None

-- how many rows are added, and whether some row is given by its id
unfoldable pub new_rows_from : Bool → Data → Option (ℕ × Bool)
new_rows_from single d = do
  ids ← given_from new_row_from single d
  count ← count_from ids
  Some (count, is_explicit ids)

unfoldable pub add_from : Bool → List ℕ → Items → Option UserAction
add_from single table rest = do
  two ← two_items rest
  rows ← new_rows_from single two.0
  columns ← columns_in single rows.0 two.1
  Some (Add table single rows.0 rows.1 columns)

unfoldable pub update_from : Bool → List ℕ → Items → Option UserAction
update_from single table rest = do
  two ← two_items rest
  ids ← given_from int_from single two.0
  columns ← columns_in single (length ids) two.1
  Some (Update table single ids columns)

unfoldable pub remove_from : Bool → List ℕ → Items → Option UserAction
remove_from single table rest = do
  rows ← only_item rest
  ids ← given_from int_from single rows
  Some (Remove table single ids)
