-- What an action affects in a whole document, and what stays.
use Rattle.std.specs.Prelude.{ℕ, ◌≡◌, Bool, true, false, List, Some}
use Rattle.std.specs.Option.{is_some}
use Rattle.cell_types.specs.declared.cell.CellId.{CellId}
use Rattle.doc_model.specs.declared.action.DocAction.{DocAction}
use Rattle.doc_model.specs.Apply.{apply}
use Rattle.doc_model.specs.Document.{Document}
use Rattle.doc_model.specs.DocumentLaws.{IsWhole}
use Rattle.doc_model.specs.Valid.{valid}
use Rattle.recalc.specs.Evaluated.{formula_at, sheet_of}
use Rattle.recalc.specs.Sheet.{IsListed, evaluated, reads}
use Rattle.affected_cells.specs.Affected.{affect_step, affected, is_fresh_cell}
use Rattle.affected_cells.specs.Touched.{is_touched}

-- a formula cell that a valid action on a whole document does not affect keeps its value and its
-- reads
abbrev pub KeptCellsLaw : Type 0
KeptCellsLaw =
    (s : Document) (a : DocAction) → IsWhole s → valid s a ≡ true → (c : CellId) (f : List ℕ)
    → formula_at (apply s a) c ≡ Some f → affected s a c ≡ false
    → (evaluated (sheet_of (apply s a)) c ≡ evaluated (sheet_of s) c)
    × (reads (sheet_of (apply s a)) c ≡ reads (sheet_of s) c)

-- whether a formula cell of the document after the action is among these cells, was no formula
-- cell, stands in a modified column, or has a read that is touched, that names one of these cells,
-- or that is of the column of one as a key column
abbrev pub comes_to : Document → DocAction → (CellId → Bool) → CellId → Bool
comes_to s a =
    affect_step (sheet_of s) (sheet_of (apply s a)) (is_fresh_cell s a) (is_touched s a)

-- a set of cells that has each cell that comes to it
abbrev pub IsClosedSet : Document → DocAction → (CellId → Bool) → Type 0
IsClosedSet s a p = (c : CellId) → comes_to s a p c ≡ true → p c ≡ true

-- the affected cells are formula cells after the action, a closed set, and in each closed set
pub record IsLeastSet (s : Document) (a : DocAction) : Type 0 where
  pub formulas : (c : CellId) → affected s a c ≡ true
      → is_some (formula_at (apply s a) c) ≡ true
  pub closed : IsClosedSet s a (affected s a)
  pub least : (p : CellId → Bool) → IsClosedSet s a p → (c : CellId) → affected s a c ≡ true
      → p c ≡ true

abbrev pub LeastSetLaw : Type 0
LeastSetLaw = (s : Document) (a : DocAction) → IsLeastSet s a

-- each formula cell of a document is listed
abbrev pub ListedLaw : Type 0
ListedLaw = (s : Document) → IsListed (sheet_of s)
