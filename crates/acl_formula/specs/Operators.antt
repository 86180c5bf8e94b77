-- Which operators need no more than two values, and the number that one gave.
use Rattle.std.specs.Prelude.{Option, Some, None, Result, Ok}
use Rattle.cell_types.specs.declared.value.CellValue.{CellValue}
use Rattle.cell_types.specs.declared.value.CellValue.TheVariants as value
use Rattle.value_ops.specs.declared.fault.OpFault.{OpFault}
use Rattle.formula_parse.specs.declared.operator.BinaryOp.{BinaryOp}
use Rattle.formula_parse.specs.declared.operator.BinaryOp.TheVariants as op

-- neither of those that may leave out the second operand, nor the one that joins
abbrev pub IsOfValues : BinaryOp → Type 0
IsOfValues op.Or = ⊥
IsOfValues op.And = ⊥
IsOfValues op.Add = ⊥
IsOfValues _ = Unit {0}

-- a number, where an answer is one
abbrev pub int_in : Result CellValue OpFault → Option CellValue
int_in (Ok (value.Int n)) = Some (value.Int n)
int_in _ = None
