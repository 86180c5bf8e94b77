-- Which values refer to rows.
use Rattle.std.specs.Prelude.{ℕ, ℤ, pos, negsuc, List, [], ◌∷◌, map, nat_le, nat_lt, Option, Some, None, if◌then◌else◌, bytes_eq}
use Rattle.cell_types.specs.declared.value.CellItem.{CellItem}
use Rattle.cell_types.specs.declared.value.CellItem.TheVariants as item

-- a number from 0 to 4,294,967,295
abbrev pub row_number : ℤ → Option ℕ
row_number (pos n) = if nat_le n 4294967295 then Some n else None
row_number (negsuc n) = None

-- 0 is no row
abbrev pub no_zero : Option ℕ → Option ℕ
no_zero None = None
no_zero (Some n) = if nat_lt 0 n then Some n else None

-- the row that an item of a list names in that table: a row number from 1, or a record of the table
abbrev pub row_in : List ℕ → CellItem → Option ℕ
row_in table item.Null = None
row_in table (item.Int n) = no_zero (row_number n)
row_in table (item.Bool b) = None
row_in table (item.Text t) = None
row_in table (item.Date n) = None
row_in table (item.Rec r) = if bytes_eq r.table table then no_zero (Some r.row) else None

-- an item before the others, where there are all
abbrev pub with_first : Option ℕ → Option (List ℕ) → Option (List ℕ)
with_first None rows = None
with_first (Some r) None = None
with_first (Some r) (Some rs) = Some (r ∷ rs)

-- the rows that the items name, where each of them names one
abbrev pub rows_in : List ℕ → List CellItem → Option (List ℕ)
rows_in table [] = Some []
rows_in table (i ∷ is) = with_first (row_in table i) (rows_in table is)

-- rows as the items of a list
abbrev pub row_items : List ℕ → List CellItem
row_items rows = map (λ r. item.Int (pos r)) rows
