-- Calls of functions.
use Rattle.std.specs.Prelude.{ℕ, zero, suc, Bool, ◌&&◌, ◌==◌, cond, nat_le, List, [], ◌∷◌, Option, Some, None}
use Rattle.cell_types.specs.declared.value.CellValue.{CellValue}
use Rattle.cell_types.specs.declared.value.CellValue.TheVariants as value
use Rattle.cell_types.specs.declared.value.ErrKind.TheVariants as err
use Rattle.formula_eval.specs.declared.function.Function.{Function}
use Rattle.formula_eval.specs.declared.function.Function.TheVariants as fn
use Rattle.formula_eval.specs.Run.{gives, raises, Run, out_of, done, seq, or_else, collect}
use Rattle.formula_eval.specs.Operator.{chosen}
use Rattle.formula_eval.specs.Function.{applied}

-- whether the function takes so many arguments
abbrev pub takes : Function → ℕ → Bool
takes fn.If n = n == 3
takes fn.IfError n = nat_le 1 n && nat_le n 2
takes fn.Sum n = nat_le 1 n
takes fn.Min n = nat_le 1 n
takes fn.Max n = nat_le 1 n
takes _ n = n == 1

-- the argument at a place, or else the empty text
abbrev pub argument : List (Run CellValue) → ℕ → Run CellValue
argument [] i = done (gives (value.Text []))
argument (a ∷ rest) zero = a
argument (a ∷ rest) (suc i) = argument rest i

-- what is evaluated of the arguments, and what comes of it
abbrev pub run_function : Function → List (Run CellValue) → Run CellValue
run_function fn.If runs = chosen (argument runs 0) (argument runs 1) (argument runs 2)
run_function fn.IfError runs = or_else (argument runs 0) (argument runs 1)
run_function f runs = seq (collect runs) (λ vs. done (out_of (applied f vs)))

-- a wrong count is told before any argument is evaluated
abbrev pub counted : Function → ℕ → List (Run CellValue) → Run CellValue
counted f n runs = cond (takes f n) (run_function f runs) (done (raises err.WrongType))

-- a name that is no function's is told before any argument is evaluated
abbrev pub called : Option Function → ℕ → List (Run CellValue) → Run CellValue
called None n runs = done (raises err.Name)
called (Some f) n runs = counted f n runs
