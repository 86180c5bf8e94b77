-- What one attempt at a formula answers.
use Rattle.std.specs.Prelude.{◌≡◌, ◌++◌, List, Option, Some, None, ⊤}
use Rattle.cell_types.specs.declared.cell.CellId.{CellId}
use Rattle.cell_types.specs.declared.value.CellValue.{CellValue}
use Rattle.cell_types.specs.declared.value.CellValue.TheVariants as value
use Rattle.cell_types.specs.declared.value.ErrKind.TheVariants as err
use Rattle.formula_eval.specs.declared.outcome.Attempt.{Attempt}
use Rattle.formula_eval.specs.declared.outcome.Attempt.TheVariants as attempt
use Rattle.formula_eval.specs.declared.note.Note.{Note}
use Rattle.formula_eval.specs.declared.outcome.Tried.{Tried}
use Rattle.formula_eval.specs.declared.outcome.Tried.TheVariants as tried
use Rattle.formula_eval.specs.Run.{Run, Out, gives, raises, stops, circular, need, MayName}

-- the value, where no cell is needed; what is raised and what is circular is the value's error
abbrev pub value_of : Out CellValue → Option CellValue
value_of (gives v) = Some v
value_of (raises e) = Some (value.Err e)
value_of (stops circular) = Some (value.Err err.Circular)
value_of (stops (need cs)) = None

-- the attempt tells the run's value and notes, or one of the cells that it may name
abbrev pub IsAttempt : Attempt → Run CellValue → Type 0
IsAttempt (attempt.Value v notes) a = (value_of a.out ≡ Some v) × (a.notes ≡ notes)
IsAttempt (attempt.Need c) a = MayName c a.out

-- where a cell is needed, that
abbrev pub IfNeed : Attempt → (CellId → Type 0) → Type 0
IfNeed (attempt.Value v notes) P = ⊤
IfNeed (attempt.Need c) P = P c

-- the same of an attempt whose notes a keeper took
abbrev pub IsTried : Tried → Run CellValue → Type 0
IsTried (tried.Value v) a = value_of a.out ≡ Some v
IsTried (tried.Need c) a = MayName c a.out

-- with a value, the keeper took the run's notes after those before
abbrev pub HasNoted : Tried → List Note → List Note → Run CellValue → Type 0
HasNoted (tried.Value v) old new a = old ++ a.notes ≡ new
HasNoted (tried.Need c) old new a = ⊤
