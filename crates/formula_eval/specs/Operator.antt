-- What the operators give.
use Rattle.std.specs.Prelude.{Bool, true, false, not, cond}
use Rattle.cell_types.specs.declared.value.CellValue.{CellValue}
use Rattle.cell_types.specs.declared.value.CellValue.TheVariants as value
use Rattle.cell_types.specs.declared.value.RowRef.{RowRef}
use Rattle.formula_parse.specs.declared.operator.BinaryOp.{BinaryOp}
use Rattle.formula_parse.specs.declared.operator.BinaryOp.TheVariants as op
use Rattle.formula_parse.specs.declared.operator.PrefixOp.{PrefixOp}
use Rattle.formula_parse.specs.declared.operator.PrefixOp.TheVariants as pre
use Rattle.formula_parse.specs.declared.operator.Constant.{Constant}
use Rattle.formula_parse.specs.declared.operator.Constant.TheVariants as con
use Rattle.value_ops.specs.Containment.{contains_of}
use Rattle.value_ops.specs.Equality.{is_equal}
use Rattle.value_ops.specs.Joined.{sum_of}
use Rattle.value_ops.specs.Kind.{is_same}
use Rattle.value_ops.specs.Numbers.{difference_of, product_of, quotient_of, remainder_of, negation_of}
use Rattle.value_ops.specs.Order.{less_of}
use Rattle.value_ops.specs.Truth.{truth_of}
use Rattle.formula_eval.specs.Run.{Out, gives, raises, stops, Run, out_of, done, seq}

-- a truth value
abbrev pub truth_out : Bool → Out CellValue
truth_out b = gives (value.Bool b)

-- a truth value, or the error
abbrev pub tested : Out Bool → Out CellValue
tested (gives b) = gives (value.Bool b)
tested (raises e) = raises e
tested (stops s) = stops s

-- its contrary, or the error
abbrev pub untested : Out Bool → Out CellValue
untested (gives b) = gives (value.Bool (not b))
untested (raises e) = raises e
untested (stops s) = stops s

-- whether the left operand is what the operator gives, so that the right one is not evaluated
abbrev pub is_decided : BinaryOp → CellValue → Bool
is_decided op.Or v = truth_of v
is_decided op.And v = not (truth_of v)
is_decided _ v = false

-- what an operator gives of both operands
abbrev pub operated : BinaryOp → CellValue → CellValue → Out CellValue
operated op.Or v w = gives w
operated op.And v w = gives w
operated op.Equal v w = truth_out (is_equal v w)
operated op.NotEqual v w = truth_out (not (is_equal v w))
operated op.Less v w = tested (out_of (less_of v w))
operated op.AtMost v w = untested (out_of (less_of w v))
operated op.More v w = tested (out_of (less_of w v))
operated op.AtLeast v w = untested (out_of (less_of v w))
operated op.In v w = tested (out_of (contains_of v w))
operated op.NotIn v w = untested (out_of (contains_of v w))
operated op.Is v w = truth_out (is_same v w)
operated op.IsNot v w = truth_out (not (is_same v w))
operated op.Add v w = out_of (sum_of v w)
operated op.Subtract v w = out_of (difference_of v w)
operated op.Multiply v w = out_of (product_of v w)
operated op.Divide v w = out_of (quotient_of v w)
operated op.Remainder v w = out_of (remainder_of v w)

-- an operator between two operands
abbrev pub combined : BinaryOp → Run CellValue → Run CellValue → Run CellValue
combined o a b =
    seq a (λ v. cond (is_decided o v) (done (gives v)) (seq b (λ w. done (operated o v w))))

-- an operator in front of its operand
abbrev pub prefixed : PrefixOp → CellValue → Out CellValue
prefixed pre.Not v = truth_out (not (truth_of v))
prefixed pre.Negate v = out_of (negation_of v)

-- an operator in front of what is run
abbrev pub turned : PrefixOp → Run CellValue → Run CellValue
turned o a = seq a (λ v. done (prefixed o v))

-- one of two, by the truth of the first; the other is not evaluated
abbrev pub chosen : Run CellValue → Run CellValue → Run CellValue → Run CellValue
chosen test a b = seq test (λ v. cond (truth_of v) a b)

-- `True`, `False`, `None` and `rec`
abbrev pub constant_value : RowRef → Constant → CellValue
constant_value at con.True = value.Bool true
constant_value at con.False = value.Bool false
constant_value at con.None = value.Null
constant_value at con.Rec = value.Rec at
