-- How a result of a definition is told by a call.
use Rattle.std.specs.Prelude.{◌≡◌, Bool, Result, Ok, Err, ⊤}
use Rattle.cell_types.specs.declared.value.CellValue.{CellValue}
use Rattle.cell_types.specs.declared.value.CellValue.TheVariants as value
use Rattle.cell_types.specs.declared.value.ErrKind.{ErrKind}
use Rattle.value_ops.specs.declared.fault.OpFault.{OpFault}
use Rattle.value_ops.specs.declared.fault.OpFault.TheVariants.{Raised, NoMemory}

-- the value, or the error that it raises
abbrev pub answer : Result CellValue ErrKind → Result CellValue OpFault
answer (Ok v) = Ok v
answer (Err e) = Err (Raised e)

-- a truth value as a value
abbrev pub bool_value : Result Bool ErrKind → Result CellValue ErrKind
bool_value (Ok b) = Ok (value.Bool b)
bool_value (Err e) = Err e

-- that answer, or there was no memory
abbrev pub AnswersWithMemory : Result CellValue OpFault → Result CellValue ErrKind → Type 0
AnswersWithMemory (Ok v) wanted = wanted ≡ Ok v
AnswersWithMemory (Err (Raised e)) wanted = wanted ≡ Err e
AnswersWithMemory (Err NoMemory) wanted = ⊤
