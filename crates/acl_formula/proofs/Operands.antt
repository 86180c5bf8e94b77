-- Operators on operands that have values.
use Rattle.std.proofs.Common.{◌≡◌, ◌∙◌, ap, sym, refl, ℤ, pos, true, false, Option, Some, Ok, Err, if◌then◌else◌}
use Rattle.std.specs.Ordering.{int_eq}
use Rattle.cell_types.specs.Decimal.{fits_64_bits}
use Rattle.cell_types.specs.declared.value.CellValue.{CellValue}
use Rattle.cell_types.specs.declared.value.CellValue.TheVariants as value
use Rattle.cell_types.specs.declared.value.ErrKind.TheVariants.{Overflow, ZeroDivision}
use Rattle.formula_parse.specs.declared.operator.BinaryOp.{BinaryOp}
use Rattle.formula_parse.specs.declared.operator.BinaryOp.TheVariants as op
use Rattle.value_ops.specs.Answer.{answer}
use Rattle.value_ops.specs.Division.{floored_remainder}
use Rattle.value_ops.specs.Joined.{sum_of}
use Rattle.value_ops.specs.Numbers.{in_64_bits, divided}
use Rattle.acl_formula.specs.Operators.{IsOfValues, int_in}
use Rattle.acl_formula.specs.RuleValue.{kept, operated, combined}

bits_kept : (n : ℤ) → int_in (answer (in_64_bits n)) ≡ kept (in_64_bits n)
bits_kept n =
    elim (fits_64_bits n) as (λ b. int_in (answer (if b then Ok (value.Int n) else Err Overflow)) ≡ kept (if b then Ok (value.Int n) else Err Overflow)) [
      | true ↦ refl
      | false ↦ refl
    ]

-- a remainder is a number, or it fails
pub remainder_kept : (a b : ℤ) → int_in (answer (divided floored_remainder a b)) ≡ kept (divided floored_remainder a b)
remainder_kept a b =
    elim (int_eq b (pos 0)) as (λ t. int_in (answer (if t then Err ZeroDivision else in_64_bits (floored_remainder a b))) ≡ kept (if t then Err ZeroDivision else in_64_bits (floored_remainder a b))) [
      | true ↦ refl
      | false ↦ bits_kept (floored_remainder a b)
    ]

on_values : (o : BinaryOp) → IsOfValues o → (v w : CellValue) → combined o (Some v) (Some w) ≡ operated o v w
on_values op.Or is v w = absurd is
on_values op.And is v w = absurd is
on_values op.Equal is v w = refl
on_values op.NotEqual is v w = refl
on_values op.Less is v w = refl
on_values op.AtMost is v w = refl
on_values op.More is v w = refl
on_values op.AtLeast is v w = refl
on_values op.In is v w = refl
on_values op.NotIn is v w = refl
on_values op.Is is v w = refl
on_values op.IsNot is v w = refl
on_values op.Add is v w = absurd is
on_values op.Subtract is v w = refl
on_values op.Multiply is v w = refl
on_values op.Divide is v w = refl
on_values op.Remainder is v w = refl

pub operated_values : (o : BinaryOp) → IsOfValues o → (a b r : Option CellValue) (v u w : CellValue) → a ≡ Some v → b ≡ Some w → u ≡ v → r ≡ operated o u w → r ≡ combined o a b
operated_values o is a b r v u w ea eb eu er = er ∙ ap (λ (x : CellValue). operated o x w) eu ∙ sym (on_values o is v w) ∙ (λ i. combined o (sym ea i) (sym eb i))

pub summed_values : (a b r : Option CellValue) (v u w x : CellValue) → a ≡ Some v → b ≡ Some w → u ≡ v → x ≡ w → r ≡ kept (sum_of u x) → r ≡ combined op.Add a b
summed_values a b r v u w x ea eb eu ex er = er ∙ (λ i. kept (sum_of (eu i) (ex i))) ∙ (λ i. combined op.Add (sym ea i) (sym eb i))
