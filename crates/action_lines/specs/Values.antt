-- Which JSON stands for a value, and how it is read.
use Rattle.std.specs.Prelude.{◌≡◌, ℕ, ℤ, List, Bool, true, ◌&&◌, nat_lt, nat_le, length}
use Rattle.std.specs.Str.{chars}
use Rattle.serde_json.specs.Data.{Data, null, boolean, string, array, Items, no_items, item}
use Rattle.cell_types.specs.declared.value.CellItem.{CellItem}
use Rattle.cell_types.specs.declared.value.CellItem.TheVariants as one
use Rattle.cell_types.specs.declared.value.CellValue.{CellValue}
use Rattle.cell_types.specs.declared.value.CellValue.TheVariants as value
use Rattle.cell_types.specs.declared.value.RowRef.{RowRef}
use Rattle.cell_types.specs.declared.value.RowSet.{RowSet}
use Rattle.cell_types.specs.ValueText.{err_text}
use Rattle.action_lines.specs.declared.marks.Mark.{Mark}
use Rattle.action_lines.specs.declared.marks.Mark.TheVariants as mark
use Rattle.action_lines.specs.Items.{AreAll}
use Rattle.action_lines.specs.Numbers.{IsInt, IsRow}
use Rattle.action_lines.specs.Marks.{mark_text}

-- 1 to 64 characters
abbrev pub has_name_length : List ℕ → Bool
has_name_length t = nat_lt 0 (length (chars t)) && nat_le (length (chars t)) 64

-- [mark,..]
abbrev pub marked : Mark → Items → Data
marked m ds = array (item (string (mark_text m)) ds)

-- ["d",seconds]
abbrev pub IsDate : ℤ → Data → Type 0
IsDate z d = (seconds : Data) × IsInt z seconds × (d ≡ marked mark.Date (item seconds no_items))

-- ["R",table,row]
abbrev pub IsRef : RowRef → Data → Type 0
IsRef r d =
    (row : Data) × (has_name_length r.table ≡ true) × IsRow r.row row
    × (d ≡ marked mark.Rec (item (string r.table) (item row no_items)))

-- ["r",table,[row,..]]
abbrev pub IsSet : RowSet → Data → Type 0
IsSet s d =
    (rows : Items) × (has_name_length s.table ≡ true) × AreAll IsRow s.rows rows
    × (d ≡ marked mark.Rows (item (string s.table) (item (array rows) no_items)))

-- the JSON of an item of a list
abbrev pub IsItem : CellItem → Data → Type 0
IsItem one.Null d = d ≡ null
IsItem (one.Int z) d = IsInt z d
IsItem (one.Bool b) d = d ≡ boolean b
IsItem (one.Text t) d = d ≡ string t
IsItem (one.Date z) d = IsDate z d
IsItem (one.Rec r) d = IsRef r d

-- the JSON of a value
abbrev pub IsValue : CellValue → Data → Type 0
IsValue value.Null d = d ≡ null
IsValue (value.Int z) d = IsInt z d
IsValue (value.Bool b) d = d ≡ boolean b
IsValue (value.Text t) d = d ≡ string t
IsValue (value.Date z) d = IsDate z d
IsValue (value.Rec r) d = IsRef r d
IsValue (value.RecSet s) d = IsSet s d
IsValue (value.List items) d = (ds : Items) × AreAll IsItem items ds × (d ≡ marked mark.List ds)
IsValue (value.Err e) d = d ≡ marked mark.Err (item (string (err_text e)) no_items)
IsValue value.Censored d = d ≡ marked mark.Censored no_items
