-- Arithmetic on values: an Int is its number, True is 1 and False is 0.
use Rattle.std.specs.Prelude.{ℤ, pos, ◌-ℤ◌, ◌*ℤ◌, Bool, true, false, Option, Some, None, Result, Ok, Err, if◌then◌else◌}
use Rattle.std.specs.Ordering.{int_eq}
use Rattle.cell_types.specs.declared.value.CellValue.{CellValue}
use Rattle.cell_types.specs.declared.value.CellValue.TheVariants as value
use Rattle.cell_types.specs.declared.value.ErrKind.{ErrKind}
use Rattle.cell_types.specs.declared.value.ErrKind.TheVariants.{WrongType, Overflow, ZeroDivision}
use Rattle.cell_types.specs.Decimal.{fits_64_bits}
use Rattle.value_ops.specs.Division.{floored_quotient, floored_remainder}

-- the number of a truth value
abbrev pub bool_number : Bool → ℤ
bool_number true = pos 1
bool_number false = pos 0

-- the number that a value is, where it is one
abbrev pub number_of : CellValue → Option ℤ
number_of value.Null = None
number_of (value.Int n) = Some n
number_of (value.Bool b) = Some (bool_number b)
number_of (value.Text t) = None
number_of (value.Date n) = None
number_of (value.Rec r) = None
number_of (value.RecSet s) = None
number_of (value.List items) = None
number_of (value.Err e) = None
number_of value.Censored = None

-- a number as a value, where 64 bits hold it
abbrev pub in_64_bits : ℤ → Result CellValue ErrKind
in_64_bits n = if fits_64_bits n then Ok (value.Int n) else Err Overflow

-- an operation on two numbers; where one of them is none, a wrong type
abbrev pub on_numbers : (ℤ → ℤ → Result CellValue ErrKind) → Option ℤ → Option ℤ
    → Result CellValue ErrKind
on_numbers operation None right = Err WrongType
on_numbers operation (Some a) None = Err WrongType
on_numbers operation (Some a) (Some b) = operation a b

-- one of the two results of a division, where it is not by 0
abbrev pub divided : (ℤ → ℤ → ℤ) → ℤ → ℤ → Result CellValue ErrKind
divided part a b = if int_eq b (pos 0) then Err ZeroDivision else in_64_bits (part a b)

-- left - right
abbrev pub difference_of : CellValue → CellValue → Result CellValue ErrKind
difference_of left right =
    on_numbers (λ a b. in_64_bits (a -ℤ b)) (number_of left) (number_of right)

-- left * right
abbrev pub product_of : CellValue → CellValue → Result CellValue ErrKind
product_of left right = on_numbers (λ a b. in_64_bits (a *ℤ b)) (number_of left) (number_of right)

-- left // right
abbrev pub quotient_of : CellValue → CellValue → Result CellValue ErrKind
quotient_of left right = on_numbers (divided floored_quotient) (number_of left) (number_of right)

-- left % right
abbrev pub remainder_of : CellValue → CellValue → Result CellValue ErrKind
remainder_of left right = on_numbers (divided floored_remainder) (number_of left) (number_of right)

-- - operand: what is left of 0 without it
abbrev pub negation_of : CellValue → Result CellValue ErrKind
negation_of operand = on_numbers (λ a b. in_64_bits (a -ℤ b)) (Some (pos 0)) (number_of operand)
