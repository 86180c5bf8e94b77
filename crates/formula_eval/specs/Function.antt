-- What the functions give of the values of their arguments.
use Rattle.std.specs.Prelude.{ℕ, ℤ, pos, nat_abs, ◌+ℤ◌, cond, Bool, true, false, List, [], ◌∷◌, ◌++◌, length, codes, bytes_eq, Option, Some, None, Result, Ok, Err}
use Rattle.std.specs.Int.{int_max, int_min}
use Rattle.std.specs.Str.{chars}
use Rattle.cell_types.specs.declared.value.CellItem.{CellItem}
use Rattle.cell_types.specs.declared.value.CellItem.TheVariants as item
use Rattle.cell_types.specs.declared.value.CellValue.{CellValue}
use Rattle.cell_types.specs.declared.value.CellValue.TheVariants as value
use Rattle.cell_types.specs.declared.value.ErrKind.{ErrKind}
use Rattle.cell_types.specs.declared.value.ErrKind.TheVariants as err
use Rattle.cell_types.specs.ValueText.{text_within_bound}
use Rattle.value_ops.specs.Numbers.{number_of, in_64_bits}
use Rattle.value_ops.specs.Truth.{truth_of}
use Rattle.formula_eval.specs.declared.function.Function.{Function}
use Rattle.formula_eval.specs.declared.function.Function.TheVariants as fn

-- the function of that name
unfoldable pub function_of : List ℕ → Option Function
function_of n =
    cond (bytes_eq n (codes "IF")) (Some fn.If)
    (cond (bytes_eq n (codes "IFERROR")) (Some fn.IfError)
    (cond (bytes_eq n (codes "SUM")) (Some fn.Sum)
    (cond (bytes_eq n (codes "MIN")) (Some fn.Min)
    (cond (bytes_eq n (codes "MAX")) (Some fn.Max)
    (cond (bytes_eq n (codes "len")) (Some fn.Len)
    (cond (bytes_eq n (codes "abs")) (Some fn.Abs)
    (cond (bytes_eq n (codes "str")) (Some fn.Str)
    (cond (bytes_eq n (codes "bool")) (Some fn.Bool) None))))))))

-- the whole numbers among items
abbrev pub item_numbers : List CellItem → List ℤ
item_numbers [] = []
item_numbers (item.Int n ∷ is) = n ∷ item_numbers is
item_numbers (i ∷ is) = item_numbers is

-- the whole numbers among values and their items
abbrev pub numbers_in : List CellValue → List ℤ
numbers_in [] = []
numbers_in (value.Int n ∷ vs) = n ∷ numbers_in vs
numbers_in (value.List is ∷ vs) = item_numbers is ++ numbers_in vs
numbers_in (v ∷ vs) = numbers_in vs

-- the dates among items
abbrev pub item_dates : List CellItem → List ℤ
item_dates [] = []
item_dates (item.Date n ∷ is) = n ∷ item_dates is
item_dates (i ∷ is) = item_dates is

-- the dates among values and their items
abbrev pub dates_in : List CellValue → List ℤ
dates_in [] = []
dates_in (value.Date n ∷ vs) = n ∷ dates_in vs
dates_in (value.List is ∷ vs) = item_dates is ++ dates_in vs
dates_in (v ∷ vs) = dates_in vs

-- a number with all the others
abbrev pub folded : (ℤ → ℤ → ℤ) → ℤ → List ℤ → ℤ
folded f n [] = n
folded f n (m ∷ ms) = folded f (f n m) ms

-- SUM
abbrev pub total_of : List CellValue → Result CellValue ErrKind
total_of vs = in_64_bits (folded ◌+ℤ◌ (pos 0) (numbers_in vs))

-- the greatest or the least of two
abbrev pub picked : Bool → ℤ → ℤ → ℤ
picked true m n = int_max m n
picked false m n = int_min m n

-- the extreme of what came before, where there is something, and of the others
abbrev pub better : Bool → Option ℤ → List ℤ → Option ℤ
better most o [] = o
better most None (n ∷ ns) = better most (Some n) ns
better most (Some m) (n ∷ ns) = better most (Some (picked most m n)) ns

-- the extreme of numbers or of dates; of both, there is none
abbrev pub extreme : Option ℤ → Option ℤ → Result CellValue ErrKind
extreme None None = Ok (value.Int (pos 0))
extreme (Some n) None = Ok (value.Int n)
extreme None (Some d) = Ok (value.Date d)
extreme (Some n) (Some d) = Err err.WrongType

-- MAX, and MIN
abbrev pub extreme_of : Bool → List CellValue → Result CellValue ErrKind
extreme_of most vs = extreme (better most None (numbers_in vs)) (better most None (dates_in vs))

-- how many there are, as a value
abbrev pub count_value : ℕ → Result CellValue ErrKind
count_value n = in_64_bits (pos n)

-- len
abbrev pub length_of : CellValue → Result CellValue ErrKind
length_of (value.Text t) = count_value (length (chars t))
length_of (value.List is) = count_value (length is)
length_of (value.RecSet s) = count_value (length s.rows)
length_of v = Err err.WrongType

-- the size of a number; where there is none, a wrong type
abbrev pub size_of : Option ℤ → Result CellValue ErrKind
size_of None = Err err.WrongType
size_of (Some n) = in_64_bits (pos (nat_abs n))

-- a text, where there is one within the bound
abbrev pub text_or_overflow : Option (List ℕ) → Result CellValue ErrKind
text_or_overflow None = Err err.Overflow
text_or_overflow (Some t) = Ok (value.Text t)

-- the value of one argument, or none
abbrev pub first_of : List CellValue → CellValue
first_of [] = value.Null
first_of (v ∷ vs) = v

-- what a function of one argument gives
abbrev pub applied_to_one : Function → CellValue → Result CellValue ErrKind
applied_to_one fn.Len v = length_of v
applied_to_one fn.Abs v = size_of (number_of v)
applied_to_one fn.Str v = text_or_overflow (text_within_bound v)
applied_to_one fn.Bool v = Ok (value.Bool (truth_of v))
applied_to_one _ v = Err err.WrongType

-- what a function gives of the values of all its arguments; IF and IFERROR do not evaluate all of
-- them
abbrev pub applied : Function → List CellValue → Result CellValue ErrKind
applied fn.If vs = Err err.WrongType
applied fn.IfError vs = Err err.WrongType
applied fn.Sum vs = total_of vs
applied fn.Min vs = extreme_of false vs
applied fn.Max vs = extreme_of true vs
applied f vs = applied_to_one f (first_of vs)
