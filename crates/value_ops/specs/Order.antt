-- The order of values, as `<` sees it.
use Rattle.std.specs.Prelude.{ℕ, ℤ, Bool, List, Option, Some, None, Result, Ok, Err}
use Rattle.std.specs.Int.RustNames.{int_lt}
use Rattle.std.specs.Ordering.{nat_cmp, is_lt}
use Rattle.std.specs.Cmp.Lexicographic.{slice_cmp}
use Rattle.cell_types.specs.declared.value.CellValue.{CellValue}
use Rattle.cell_types.specs.declared.value.CellValue.TheVariants as value
use Rattle.cell_types.specs.declared.value.ErrKind.{ErrKind}
use Rattle.cell_types.specs.declared.value.ErrKind.TheVariants.{WrongType}
use Rattle.value_ops.specs.Numbers.{number_of}

-- the first byte that differs decides, which in UTF-8 is the first character that differs; a text
-- is less than what goes on after it
abbrev pub is_less_text : List ℕ → List ℕ → Bool
is_less_text t u = is_lt (slice_cmp nat_cmp t u)

-- two numbers; where one of them is none, a wrong type
abbrev pub less_number : Option ℤ → Option ℤ → Result Bool ErrKind
less_number None right = Err WrongType
less_number (Some a) None = Err WrongType
less_number (Some a) (Some b) = Ok (int_lt a b)

-- left < right
abbrev pub less_of : CellValue → CellValue → Result Bool ErrKind
less_of (value.Text t) (value.Text u) = Ok (is_less_text t u)
less_of (value.Date m) (value.Date n) = Ok (int_lt m n)
less_of left right = less_number (number_of left) (number_of right)
