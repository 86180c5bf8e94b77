-- Attempts at the cells of formula columns.
use Rattle.std.specs.Prelude.{ℕ, List, [], ◌∷◌, ◌++◌, map, ◌≡◌, Option, Some, None, slice_get}
use Rattle.std.specs.List.{AllZip}
use Rattle.cell_types.specs.declared.value.CellValue.{CellValue}
use Rattle.formula_eval.specs.declared.note.Note.{Note}
use Rattle.formula_eval.specs.declared.outcome.Tried.{Tried}
use Rattle.formula_eval.specs.declared.outcome.Tried.TheVariants.{Value as Given, Need as Lacks}
use Rattle.formula_eval.specs.Attempted.{value_of}
use Rattle.formula_eval.specs.Eval.{evaluated}
use Rattle.formula_eval.specs.Names.{IsNeeded}
use Rattle.formula_eval.specs.Reader.{Reader, cell_at}
use Rattle.formula_eval.specs.Run.{MayName, Run, reads_of}
use Rattle.par_recalc.specs.declared.plan.ColumnFormula.{ColumnFormula}
use Rattle.par_recalc.specs.declared.running.CellAttempt.{CellAttempt}
use Rattle.par_recalc.specs.declared.running.Found.{Found}
use Rattle.par_recalc.specs.declared.running.Found.TheVariants.{Value, Need}
use Rattle.par_recalc.specs.Plan.{Plan}

-- what an attempt leads to, whose notes a keeper took
abbrev pub IsFoundOf : Found → Tried → List Note → Type 0
IsFoundOf (Value v l) (Given w) noted = (v ≡ w) × (l ≡ noted)
IsFoundOf (Value v l) (Lacks d) noted = ⊥
IsFoundOf (Need c) (Given w) noted = ⊥
IsFoundOf (Need c) (Lacks d) noted = c ≡ d

-- the value and the notes of a run, or one of the cells that it may name, which is needed
abbrev pub IsFound : Reader → Run CellValue → Found → Type 0
IsFound told a (Value v l) = (value_of a.out ≡ Some v) × (a.notes ≡ l)
IsFound told a (Need c) = MayName c a.out × IsNeeded told (reads_of a.notes) c

-- the run of a column's formula in a row
abbrev pub run_at : Reader → ColumnFormula → ℕ → Run CellValue
run_at told f r = evaluated told (record { table = f.table; row = r }) f.formula

-- one attempt at the cell of a column in a row
abbrev pub IsCellAttempt : Reader → ColumnFormula → ℕ → CellAttempt → Type 0
IsCellAttempt told f r a =
    (a.cell ≡ cell_at f.table f.column r) × IsFound told (run_at told f r) a.found

abbrev pub IsAt : Reader → ColumnFormula × ℕ → CellAttempt → Type 0
IsAt told c a = IsCellAttempt told c.0 c.1 a

-- the cells of a column by the rows of its table, which has none where it is not there
abbrev pub cells_in : ColumnFormula → Option (List ℕ) → List (ColumnFormula × ℕ)
cells_in f None = []
cells_in f (Some rows) = map (λ r. (f, r)) rows

abbrev pub cells_of : Reader → ColumnFormula → List (ColumnFormula × ℕ)
cells_of told f = cells_in f (told.rows f.table)

abbrev pub cells_of_some : Reader → Option ColumnFormula → List (ColumnFormula × ℕ)
cells_of_some told None = []
cells_of_some told (Some f) = cells_of told f

-- the cells of the columns at some places
abbrev pub places_cells : Reader → List ColumnFormula → List ℕ → List (ColumnFormula × ℕ)
places_cells told fs [] = []
places_cells told fs (p ∷ ps) = cells_of_some told (slice_get fs p) ++ places_cells told fs ps

-- those of a level
abbrev pub level_cells : Reader → List ColumnFormula → Option (List ℕ) → List (ColumnFormula × ℕ)
level_cells told fs None = []
level_cells told fs (Some places) = places_cells told fs places

-- an attempt at each cell of a level, over the same that is told: column after column, by rows
abbrev pub AreAttempts : Reader → Plan → ℕ → List CellAttempt → Type 0
AreAttempts told plan level found =
    AllZip (IsAt told) (level_cells told plan.formulas (slice_get plan.levels level)) found
