-- What an evaluation may give and raise.
use Rattle.cell_types.specs.declared.value.CellValue.TheVariants as value
use Rattle.value_ops.specs.Raising.{IsRaised}
use Rattle.formula_eval.specs.Reader.{Told, known}
use Rattle.formula_eval.specs.Run.{Out, gives, raises, stops}

-- what is told is no circular cell
abbrev pub IsToldValue : Told → Type 0
IsToldValue (known (value.Err e)) = IsRaised e
IsToldValue o = Unit {0}

-- whatever it is
abbrev pub IsAny : {A : Type 0} → A → Type 0
IsAny v = Unit {0}

-- what is given has the property, and what is raised is not the circular error
abbrev pub Obeys : {A : Type 0} → (A → Type 0) → Out A → Type 0
Obeys P (gives v) = P v
Obeys P (raises e) = IsRaised e
Obeys P (stops s) = Unit {0}
