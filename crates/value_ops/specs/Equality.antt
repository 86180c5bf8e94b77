-- Equality of values, as `==` sees it.
use Rattle.std.specs.Prelude.{◌≡◌, ℤ, pos, Bool, true, false, ◌&&◌, ◌==◌, Option, Some, None, bytes_eq}
use Rattle.std.specs.Ordering.{int_eq}
use Rattle.std.specs.Cmp.Lexicographic.{pointwise}
use Rattle.cell_types.specs.declared.value.CellItem.{CellItem}
use Rattle.cell_types.specs.declared.value.CellValue.{CellValue}
use Rattle.cell_types.specs.declared.value.CellValue.TheVariants as value
use Rattle.cell_types.specs.declared.value.RowRef.{RowRef}
use Rattle.cell_types.specs.declared.value.RowSet.{RowSet}
use Rattle.cell_types.specs.Item.{value_of_item}
use Rattle.value_ops.specs.Numbers.{number_of}

-- whether both are there and are one number
abbrev pub are_equal_numbers : Option ℤ → Option ℤ → Bool
are_equal_numbers None right = false
are_equal_numbers (Some a) None = false
are_equal_numbers (Some a) (Some b) = int_eq a b

-- the same row of the same table
abbrev pub are_equal_rows : RowRef → RowRef → Bool
are_equal_rows r s = (r.row == s.row) && bytes_eq r.table s.table

-- the same rows, in the same order, of the same table
abbrev pub are_equal_row_sets : RowSet → RowSet → Bool
are_equal_row_sets r s = bytes_eq r.table s.table && bytes_eq r.rows s.rows

-- whether two values are equal, where lists are not looked at
abbrev pub is_equal_but_lists : CellValue → CellValue → Bool
is_equal_but_lists value.Null value.Null = true
is_equal_but_lists (value.Text t) (value.Text u) = bytes_eq t u
is_equal_but_lists (value.Date m) (value.Date n) = int_eq m n
is_equal_but_lists (value.Rec r) (value.Rec s) = are_equal_rows r s
is_equal_but_lists (value.RecSet r) (value.RecSet s) = are_equal_row_sets r s
is_equal_but_lists left right = are_equal_numbers (number_of left) (number_of right)

-- whether two items of lists are equal: as values
abbrev pub is_equal_item : CellItem → CellItem → Bool
is_equal_item i j = is_equal_but_lists (value_of_item i) (value_of_item j)

-- whether two values are equal, lists item by item; errors and censored values equal nothing
abbrev pub is_equal : CellValue → CellValue → Bool
is_equal (value.List is) (value.List js) = pointwise is_equal_item is js
is_equal left right = is_equal_but_lists left right

-- a record and the number of its row
abbrev pub is_row_of : CellValue → CellValue → Bool
is_row_of (value.Rec r) (value.Int n) = int_eq n (pos r.row)
is_row_of left right = false

-- which of two values stands left makes no difference
abbrev pub EqualityLaw : Type 0
EqualityLaw = (left right : CellValue) → is_equal left right ≡ is_equal right left
