-- Membership, as `in` sees it.
use Rattle.std.specs.Prelude.{ℕ, ℤ, pos, Bool, false, ◌&&◌, ◌||◌, ◌==◌, List, [], ◌∷◌, Option, Some, None, Result, Ok, Err, bytes_eq}
use Rattle.std.specs.List.{list_any, starts_with}
use Rattle.std.specs.Ordering.{int_eq}
use Rattle.cell_types.specs.declared.value.CellItem.{CellItem}
use Rattle.cell_types.specs.declared.value.CellValue.{CellValue}
use Rattle.cell_types.specs.declared.value.CellValue.TheVariants as value
use Rattle.cell_types.specs.declared.value.ErrKind.{ErrKind}
use Rattle.cell_types.specs.declared.value.ErrKind.TheVariants.{WrongType}
use Rattle.cell_types.specs.declared.value.RowSet.{RowSet}
use Rattle.cell_types.specs.Item.{value_of_item}
use Rattle.value_ops.specs.Equality.{is_equal}
use Rattle.value_ops.specs.Numbers.{number_of}

-- whether one of the items equals the value
abbrev pub is_among : CellValue → List CellItem → Bool
is_among v items = list_any (λ i. is_equal v (value_of_item i)) items

-- whether the bytes stand one after another somewhere in the text
abbrev pub is_part : List ℕ → List ℕ → Bool
is_part part [] = starts_with ◌==◌ [] part
is_part part (c ∷ cs) = starts_with ◌==◌ (c ∷ cs) part || is_part part cs

-- whether the number is a row id in the set
abbrev pub is_row_id : Option ℤ → List ℕ → Bool
is_row_id None rows = false
is_row_id (Some n) rows = list_any (λ r. int_eq n (pos r)) rows

-- whether a value stands for a row in the set: a record of its table does, and a number
abbrev pub is_in_row_set : CellValue → RowSet → Bool
is_in_row_set (value.Rec r) s = bytes_eq r.table s.table && list_any (λ row. r.row == row) s.rows
is_in_row_set v s = is_row_id (number_of v) s.rows

-- left in right
abbrev pub contains_of : CellValue → CellValue → Result Bool ErrKind
contains_of left (value.List items) = Ok (is_among left items)
contains_of left (value.RecSet s) = Ok (is_in_row_set left s)
contains_of (value.Text t) (value.Text u) = Ok (is_part t u)
contains_of left right = Err WrongType
