-- The JSON of values.
use Rattle.std.specs.Prelude.{ℕ, ℤ, List, codes, map}
use Rattle.serde_json.specs.Data.{Data, null, boolean, string, array, no_items, item}
use Rattle.serde_json.specs.View.{items_of}
use Rattle.cell_types.specs.declared.value.CellItem.{CellItem}
use Rattle.cell_types.specs.declared.value.CellItem.TheVariants as one
use Rattle.cell_types.specs.declared.value.CellValue.{CellValue}
use Rattle.cell_types.specs.declared.value.CellValue.TheVariants as value
use Rattle.cell_types.specs.declared.value.RowRef.{RowRef}
use Rattle.cell_types.specs.declared.value.RowSet.{RowSet}
use Rattle.cell_types.specs.ValueText.{err_text}
use Rattle.action_lines.specs.Numbers.{int_data, row_data}

-- things as an array
abbrev pub array_of : {X : Type 0} → (X → Data) → List X → Data
array_of shown xs = array (items_of (map shown xs))

abbrev pub rows_data : List ℕ → Data
rows_data rows = array_of row_data rows

-- ["R",table,row]
abbrev pub ref_data : RowRef → Data
ref_data r =
    array (item (string (codes "R")) (item (string r.table) (item (row_data r.row) no_items)))

-- ["d",seconds]
abbrev pub date_data : ℤ → Data
date_data seconds = array (item (string (codes "d")) (item (int_data seconds) no_items))

-- ["r",table,[row,..]]
abbrev pub set_data : RowSet → Data
set_data s =
    array (item (string (codes "r")) (item (string s.table) (item (rows_data s.rows) no_items)))

-- an item of a list
abbrev pub item_data : CellItem → Data
item_data one.Null = null
item_data (one.Int n) = int_data n
item_data (one.Bool b) = boolean b
item_data (one.Text t) = string t
item_data (one.Date n) = date_data n
item_data (one.Rec r) = ref_data r

-- ["L",item,..]
abbrev pub list_data : List CellItem → Data
list_data items = array (item (string (codes "L")) (items_of (map item_data items)))

-- ["E",name]
abbrev pub error_data : List ℕ → Data
error_data name = array (item (string (codes "E")) (item (string name) no_items))

-- a value; what is censored is ["C"]
abbrev pub value_data : CellValue → Data
value_data value.Null = null
value_data (value.Int n) = int_data n
value_data (value.Bool b) = boolean b
value_data (value.Text t) = string t
value_data (value.Date n) = date_data n
value_data (value.Rec r) = ref_data r
value_data (value.RecSet s) = set_data s
value_data (value.List items) = list_data items
value_data (value.Err e) = error_data (err_text e)
value_data value.Censored = array (item (string (codes "C")) no_items)

abbrev pub values_data : List CellValue → Data
values_data values = array_of value_data values
