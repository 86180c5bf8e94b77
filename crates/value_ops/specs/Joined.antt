-- Sums of values: numbers are added, texts and lists are joined.
use Rattle.std.specs.Prelude.{ℕ, ◌+ℤ◌, List, ◌++◌, length, nat_le, Result, Ok, Err, if◌then◌else◌}
use Rattle.cell_types.specs.declared.value.CellItem.{CellItem}
use Rattle.cell_types.specs.declared.value.CellValue.{CellValue}
use Rattle.cell_types.specs.declared.value.CellValue.TheVariants as value
use Rattle.cell_types.specs.declared.value.ErrKind.{ErrKind}
use Rattle.cell_types.specs.declared.value.ErrKind.TheVariants.{Overflow}
use Rattle.cell_types.specs.TextBound.{text_bound}
use Rattle.value_ops.specs.Numbers.{number_of, on_numbers, in_64_bits}

-- how many items a joined list may have
abbrev pub joined_list_bound : ℕ
joined_list_bound = 1000000

-- a text, where it is within the bound
abbrev pub bounded_text : List ℕ → Result CellValue ErrKind
bounded_text t = if nat_le (length t) text_bound then Ok (value.Text t) else Err Overflow

-- a list, where it is within the bound
abbrev pub bounded_list : List CellItem → Result CellValue ErrKind
bounded_list items =
    if nat_le (length items) joined_list_bound then Ok (value.List items) else Err Overflow

-- left + right
abbrev pub sum_of : CellValue → CellValue → Result CellValue ErrKind
sum_of (value.Text t) (value.Text u) = bounded_text (t ++ u)
sum_of (value.List is) (value.List js) = bounded_list (is ++ js)
sum_of left right = on_numbers (λ a b. in_64_bits (a +ℤ b)) (number_of left) (number_of right)
