-- What operators may give and raise.
use Rattle.std.specs.Prelude.{Bool, Result, Ok, Err}
use Rattle.cell_types.specs.declared.value.CellValue.{CellValue}
use Rattle.cell_types.specs.declared.value.CellValue.TheVariants as value
use Rattle.cell_types.specs.declared.value.ErrKind.{ErrKind}
use Rattle.cell_types.specs.declared.value.ErrKind.TheVariants as err
use Rattle.value_ops.specs.Containment.{contains_of}
use Rattle.value_ops.specs.Joined.{sum_of}
use Rattle.value_ops.specs.Numbers.{difference_of, product_of, quotient_of, remainder_of, negation_of}
use Rattle.value_ops.specs.Order.{less_of}

-- it is not the error of a circular cell
abbrev pub IsRaised : ErrKind → Type 0
IsRaised err.Circular = ⊥
IsRaised e = Unit {0}

-- it is no error
abbrev pub IsValue : CellValue → Type 0
IsValue (value.Err e) = ⊥
IsValue v = Unit {0}

-- the result of an operator is such a value or such an error
abbrev pub IsFine : Result CellValue ErrKind → Type 0
IsFine (Ok v) = IsValue v
IsFine (Err e) = IsRaised e

-- the same of a test
abbrev pub IsFineTest : Result Bool ErrKind → Type 0
IsFineTest (Ok b) = Unit {0}
IsFineTest (Err e) = IsRaised e

-- what the operators give of two values
pub record AreFine (v w : CellValue) : Type 0 where
  pub sum : IsFine (sum_of v w)
  pub difference : IsFine (difference_of v w)
  pub product : IsFine (product_of v w)
  pub quotient : IsFine (quotient_of v w)
  pub remainder : IsFine (remainder_of v w)
  pub negation : IsFine (negation_of v)
  pub less : IsFineTest (less_of v w)
  pub contains : IsFineTest (contains_of v w)

-- no operator gives an error as a value, or raises the error of a circular cell
abbrev pub RaisingLaw : Type 0
RaisingLaw = (v w : CellValue) → AreFine v w
