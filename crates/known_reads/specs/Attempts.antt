-- How many attempts at cells are made while they are evaluated with a stack.
use Rattle.std.specs.Prelude.{ℕ, ◌+◌, ◌≤◌, Bool, true, false, List, [], ◌∷◌, length, filter, ⊤, ◌≡◌}
use Rattle.std.specs.List.{sum_by}
use Rattle.std.specs.Option.{is_some}
use Rattle.cell_types.specs.declared.cell.CellId.{CellId}
use Rattle.cell_types.specs.declared.value.CellValue.{CellValue}
use Rattle.cell_types.specs.declared.value.CellValue.TheVariants.{Err}
use Rattle.cell_types.specs.declared.value.ErrKind.TheVariants.{Circular}
use Rattle.doc_model.specs.Document.{Document}
use Rattle.recalc.specs.Evaluated.{formula_at}
use Rattle.recalc.specs.Sheet.{IsIn, Sheet, Values, evaluated}
use Rattle.recalc.specs.Stack.{is_open, on, one}
use Rattle.affected_cells.specs.Bound.{attempt_bound, names}
use Rattle.known_reads.specs.Beside.{Beside}
use Rattle.known_reads.specs.Recorded.{HasOpen}

-- whether a value is the error of a circular cell
abbrev pub is_circular : CellValue → Bool
is_circular (Err Circular) = true
is_circular _ = false

-- two attempts for a cell, and a third for a circular one
abbrev pub attempts_of : Sheet → CellId → ℕ
attempts_of s c = 2 + one (is_circular (evaluated s c))

-- so for each of these cells
abbrev pub most_attempts : Sheet → List CellId → ℕ
most_attempts s cells = sum_by (attempts_of s) cells

-- the same for those of the cells that have no value
abbrev pub open_attempts : Sheet → Values → List CellId → ℕ
open_attempts s k cells = most_attempts s (filter (is_open k) cells)

-- a count, with the attempts that the stale cells will take
abbrev pub due : ℕ → Beside → ℕ
due n known = n + length known.stale

-- the bound for those of the cells that have no value
abbrev pub open_bound : Sheet → Values → List CellId → ℕ
open_bound s k cells = attempt_bound s (filter (is_open k) cells)

-- how many cells stand on the first one
abbrev pub height : List CellId → ℕ
height [] = 0
height (c ∷ cs) = length cs

-- each cell names the next
abbrev pub IsNaming : Sheet → List CellId → Type 0
IsNaming s [] = ⊤
IsNaming s (c ∷ []) = ⊤
IsNaming s (c ∷ d ∷ ds) = (names s c d ≡ true) × IsNaming s (d ∷ ds)

-- from the first values and stack to the second the count went from old to new: each attempt gave a
-- cell its value, or put on the stack one that the top names; a cell that came to be stale has one
-- attempt more
pub record IsSpent (s : Sheet) (k : Values) (stack : List CellId) (old : ℕ) (j : Values)
    (next : List CellId) (new : ℕ) : Type 0 where
  pub twice : (cells : List CellId) → HasOpen s k cells
      → new + open_attempts s j cells + height stack ≤ old + open_attempts s k cells + height next
  pub named : (cells : List CellId) → HasOpen s k cells
      → new + open_bound s j cells + height stack ≤ old + open_bound s k cells + height next

-- no more attempts than it takes at most to evaluate the cells that have no value
pub record IsWithin (s : Sheet) (k : Values) (old new : ℕ) : Type 0 where
  pub twice : (cells : List CellId) → HasOpen s k cells → new ≤ old + open_attempts s k cells
  pub named : (cells : List CellId) → HasOpen s k cells → new ≤ old + open_bound s k cells

-- the formula cells among the first are in the second
abbrev pub HasFormulas : Document → List CellId → List CellId → Type 0
HasFormulas s cells all = (c : CellId) → on cells c ≡ true → is_some (formula_at s c) ≡ true
    → IsIn c all
