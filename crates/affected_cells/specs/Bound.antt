-- How many attempts at formula cells it takes at most to evaluate what an action may affect.
use Rattle.std.specs.Prelude.{ℕ, ◌+◌, ◌≡◌, Bool, true, false, ◌&&◌, List, filter, Some}
use Rattle.std.specs.List.{list_any, sum_by}
use Rattle.std.specs.Str.{bytes_eq}
use Rattle.cell_types.specs.declared.cell.CellId.{CellId}
use Rattle.cell_types.specs.declared.cell.Read.{Read}
use Rattle.cell_types.specs.declared.cell.Read.TheVariants.{Cell, Key, Rows}
use Rattle.doc_model.specs.declared.action.DocAction.{DocAction}
use Rattle.doc_model.specs.Apply.{apply}
use Rattle.doc_model.specs.Document.{Document}
use Rattle.formula_eval.specs.Run.{MayName}
use Rattle.recalc.specs.Cells.{same_cell}
use Rattle.recalc.specs.Evaluated.{sheet_of}
use Rattle.recalc.specs.Sheet.{Sheet, Values, over, reads, run_of}
use Rattle.recalc.specs.Stack.{IsSound, count}
use Rattle.affected_cells.specs.Affected.{affected}

-- the read names the cell: it is of the cell, or of the cell's column as a key
abbrev pub names_cell : CellId → Read → Bool
names_cell d (Cell c) = same_cell c d
names_cell d (Key t k) = bytes_eq t d.table && bytes_eq k d.column
names_cell d (Rows t) = false

-- one of the reads that the first cell's formula makes over the evaluated cells names the second
abbrev pub names : Sheet → CellId → CellId → Bool
names s c d = list_any (names_cell d) (reads s c)

-- how many attempts it takes at most to evaluate these cells, where all others are known: for each
-- of them 1, and one for each of them that it names
abbrev pub attempt_bound : Sheet → List CellId → ℕ
attempt_bound s cells = sum_by (λ c. 1 + count (names s c) cells) cells

-- the same of the cells that an action may affect
abbrev pub bound : Document → DocAction → ℕ
bound s a =
    let t = sheet_of (apply s a) in
    attempt_bound t (filter (affected s a) t.cells)

-- a cell that an attempt needs, where what is known is right, is named by the attempted cell
abbrev pub NeededLaw : Type 0
NeededLaw =
    (s : Sheet) (k : Values) → IsSound s k → (c d : CellId) (f : List ℕ) → s.formula c ≡ Some f
    → MayName d (run_of (over s k) c f).out → names s c d ≡ true
