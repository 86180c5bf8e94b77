-- No operator gives an error as a value, and none raises the error of a circular cell.
use Rattle.std.proofs.Common.{ℤ, ◌+ℤ◌, ◌-ℤ◌, ◌*ℤ◌, if◌then◌else◌, ℕ, pos, true, false, List, ◌++◌, Option, Some, None, Result, Ok, Err, nat_le, length}
use Rattle.std.specs.Ordering.{int_eq}
use Rattle.cell_types.specs.declared.value.CellItem.{CellItem}
use Rattle.cell_types.specs.declared.value.CellValue.{CellValue}
use Rattle.cell_types.specs.declared.value.CellValue.TheVariants as value
use Rattle.cell_types.specs.declared.value.ErrKind.{ErrKind}
use Rattle.cell_types.specs.declared.value.ErrKind.TheVariants as err
use Rattle.cell_types.specs.Decimal.{fits_64_bits}
use Rattle.cell_types.specs.TextBound.{text_bound}
use Rattle.value_ops.specs.Containment.{contains_of}
use Rattle.value_ops.specs.Division.{floored_quotient, floored_remainder}
use Rattle.value_ops.specs.Joined.{bounded_list, bounded_text, joined_list_bound, sum_of}
use Rattle.value_ops.specs.Numbers.{number_of, on_numbers, divided, in_64_bits, negation_of}
use Rattle.value_ops.specs.Order.{less_number, less_of}
use Rattle.value_ops.specs.Raising.{IsFine, IsFineTest, RaisingLaw}

pub int_fine : (n : ℤ) → IsFine (in_64_bits n)
int_fine n = elim (fits_64_bits n) as (λ b. IsFine (if b then Ok (value.Int n) else Err err.Overflow)) [ true ↦ tt | false ↦ tt ]

numbers_fine : (f : ℤ → ℤ → Result CellValue ErrKind) → ((a b : ℤ) → IsFine (f a b)) → (o p : Option ℤ) → IsFine (on_numbers f o p)
numbers_fine f h None p = tt
numbers_fine f h (Some a) None = tt
numbers_fine f h (Some a) (Some b) = h a b

divided_fine : (f : ℤ → ℤ → ℤ) (a b : ℤ) → IsFine (divided f a b)
divided_fine f a b = elim (int_eq b (pos 0)) as (λ q. IsFine (if q then Err err.ZeroDivision else in_64_bits (f a b))) [ true ↦ tt | false ↦ int_fine (f a b) ]

text_fine : (t : List ℕ) → IsFine (bounded_text t)
text_fine t = elim (nat_le (length t) text_bound) as (λ b. IsFine (if b then Ok (value.Text t) else Err err.Overflow)) [ true ↦ tt | false ↦ tt ]

pub list_fine : (is : List CellItem) → IsFine (bounded_list is)
list_fine is = elim (nat_le (length is) joined_list_bound) as (λ b. IsFine (if b then Ok (value.List is) else Err err.Overflow)) [ true ↦ tt | false ↦ tt ]

added_fine : (v w : CellValue) → IsFine (on_numbers (λ a b. in_64_bits (a +ℤ b)) (number_of v) (number_of w))
added_fine v w = numbers_fine (λ a b. in_64_bits (a +ℤ b)) (λ a b. int_fine (a +ℤ b)) (number_of v) (number_of w)

sum_fine : (v w : CellValue) → IsFine (sum_of v w)
sum_fine value.Null w = added_fine value.Null w
sum_fine (value.Int n) w = added_fine (value.Int n) w
sum_fine (value.Bool b) w = added_fine (value.Bool b) w
sum_fine (value.Text t) value.Null = added_fine (value.Text t) value.Null
sum_fine (value.Text t) (value.Int n') = added_fine (value.Text t) (value.Int n')
sum_fine (value.Text t) (value.Bool b') = added_fine (value.Text t) (value.Bool b')
sum_fine (value.Text t) (value.Text t') = text_fine (t ++ t')
sum_fine (value.Text t) (value.Date d') = added_fine (value.Text t) (value.Date d')
sum_fine (value.Text t) (value.Rec r') = added_fine (value.Text t) (value.Rec r')
sum_fine (value.Text t) (value.RecSet s') = added_fine (value.Text t) (value.RecSet s')
sum_fine (value.Text t) (value.List is') = added_fine (value.Text t) (value.List is')
sum_fine (value.Text t) (value.Err e') = added_fine (value.Text t) (value.Err e')
sum_fine (value.Text t) value.Censored = added_fine (value.Text t) value.Censored
sum_fine (value.Date d) w = added_fine (value.Date d) w
sum_fine (value.Rec r) w = added_fine (value.Rec r) w
sum_fine (value.RecSet s) w = added_fine (value.RecSet s) w
sum_fine (value.List is) value.Null = added_fine (value.List is) value.Null
sum_fine (value.List is) (value.Int n') = added_fine (value.List is) (value.Int n')
sum_fine (value.List is) (value.Bool b') = added_fine (value.List is) (value.Bool b')
sum_fine (value.List is) (value.Text t') = added_fine (value.List is) (value.Text t')
sum_fine (value.List is) (value.Date d') = added_fine (value.List is) (value.Date d')
sum_fine (value.List is) (value.Rec r') = added_fine (value.List is) (value.Rec r')
sum_fine (value.List is) (value.RecSet s') = added_fine (value.List is) (value.RecSet s')
sum_fine (value.List is) (value.List is') = list_fine (is ++ is')
sum_fine (value.List is) (value.Err e') = added_fine (value.List is) (value.Err e')
sum_fine (value.List is) value.Censored = added_fine (value.List is) value.Censored
sum_fine (value.Err e) w = added_fine (value.Err e) w
sum_fine value.Censored w = added_fine value.Censored w

less_number_fine : (o p : Option ℤ) → IsFineTest (less_number o p)
less_number_fine None p = tt
less_number_fine (Some a) None = tt
less_number_fine (Some a) (Some b) = tt

compared_fine : (v w : CellValue) → IsFineTest (less_number (number_of v) (number_of w))
compared_fine v w = less_number_fine (number_of v) (number_of w)

less_fine : (v w : CellValue) → IsFineTest (less_of v w)
less_fine value.Null w = compared_fine value.Null w
less_fine (value.Int n) w = compared_fine (value.Int n) w
less_fine (value.Bool b) w = compared_fine (value.Bool b) w
less_fine (value.Text t) value.Null = compared_fine (value.Text t) value.Null
less_fine (value.Text t) (value.Int n') = compared_fine (value.Text t) (value.Int n')
less_fine (value.Text t) (value.Bool b') = compared_fine (value.Text t) (value.Bool b')
less_fine (value.Text t) (value.Text t') = tt
less_fine (value.Text t) (value.Date d') = compared_fine (value.Text t) (value.Date d')
less_fine (value.Text t) (value.Rec r') = compared_fine (value.Text t) (value.Rec r')
less_fine (value.Text t) (value.RecSet s') = compared_fine (value.Text t) (value.RecSet s')
less_fine (value.Text t) (value.List is') = compared_fine (value.Text t) (value.List is')
less_fine (value.Text t) (value.Err e') = compared_fine (value.Text t) (value.Err e')
less_fine (value.Text t) value.Censored = compared_fine (value.Text t) value.Censored
less_fine (value.Date d) value.Null = compared_fine (value.Date d) value.Null
less_fine (value.Date d) (value.Int n') = compared_fine (value.Date d) (value.Int n')
less_fine (value.Date d) (value.Bool b') = compared_fine (value.Date d) (value.Bool b')
less_fine (value.Date d) (value.Text t') = compared_fine (value.Date d) (value.Text t')
less_fine (value.Date d) (value.Date d') = tt
less_fine (value.Date d) (value.Rec r') = compared_fine (value.Date d) (value.Rec r')
less_fine (value.Date d) (value.RecSet s') = compared_fine (value.Date d) (value.RecSet s')
less_fine (value.Date d) (value.List is') = compared_fine (value.Date d) (value.List is')
less_fine (value.Date d) (value.Err e') = compared_fine (value.Date d) (value.Err e')
less_fine (value.Date d) value.Censored = compared_fine (value.Date d) value.Censored
less_fine (value.Rec r) w = compared_fine (value.Rec r) w
less_fine (value.RecSet s) w = compared_fine (value.RecSet s) w
less_fine (value.List is) w = compared_fine (value.List is) w
less_fine (value.Err e) w = compared_fine (value.Err e) w
less_fine value.Censored w = compared_fine value.Censored w

contains_fine : (v w : CellValue) → IsFineTest (contains_of v w)
contains_fine v value.Null = tt
contains_fine v (value.Int n) = tt
contains_fine v (value.Bool b) = tt
contains_fine value.Null (value.Text t) = tt
contains_fine (value.Int n') (value.Text t) = tt
contains_fine (value.Bool b') (value.Text t) = tt
contains_fine (value.Text t') (value.Text t) = tt
contains_fine (value.Date d') (value.Text t) = tt
contains_fine (value.Rec r') (value.Text t) = tt
contains_fine (value.RecSet s') (value.Text t) = tt
contains_fine (value.List is') (value.Text t) = tt
contains_fine (value.Err e') (value.Text t) = tt
contains_fine value.Censored (value.Text t) = tt
contains_fine v (value.Date d) = tt
contains_fine v (value.Rec r) = tt
contains_fine v (value.RecSet s) = tt
contains_fine v (value.List is) = tt
contains_fine v (value.Err e) = tt
contains_fine v value.Censored = tt

negation_fine : (v : CellValue) → IsFine (negation_of v)
negation_fine v = numbers_fine (λ a b. in_64_bits (a -ℤ b)) (λ a b. int_fine (a -ℤ b)) (Some (pos 0)) (number_of v)

pub operators_fine : RaisingLaw
operators_fine v w =
    record {
      sum = sum_fine v w;
      difference = numbers_fine (λ a b. in_64_bits (a -ℤ b)) (λ a b. int_fine (a -ℤ b)) (number_of v) (number_of w);
      product = numbers_fine (λ a b. in_64_bits (a *ℤ b)) (λ a b. int_fine (a *ℤ b)) (number_of v) (number_of w);
      quotient = numbers_fine (divided floored_quotient) (divided_fine floored_quotient) (number_of v) (number_of w);
      remainder = numbers_fine (divided floored_remainder) (divided_fine floored_remainder) (number_of v) (number_of w);
      negation = negation_fine v;
      less = less_fine v w;
      contains = contains_fine v w;
    }
