-- A graph beside the values, over rows of one table that come or go.
use Rattle.std.specs.Prelude.{ℕ, true, false, List, Some, ◌≡◌}
use Rattle.std.specs.Option.{is_some}
use Rattle.cell_types.specs.declared.cell.CellId.{CellId}
use Rattle.doc_model.specs.declared.action.DocAction.{DocAction}
use Rattle.doc_model.specs.Apply.{apply}
use Rattle.doc_model.specs.Document.{Document}
use Rattle.doc_model.specs.Valid.{valid}
use Rattle.dep_graph.specs.declared.numbers.CellNumber.{CellNumber}
use Rattle.dep_graph.specs.Graph.{Graph}
use Rattle.recalc.specs.Evaluated.{formula_at, sheet_of}
use Rattle.recalc.specs.Stack.{on}
use Rattle.affected_cells.specs.Noted.{notes}
use Rattle.affected_search.specs.Actions.{KeepsOthers}
use Rattle.affected_search.specs.Sheets.{is_found}
use Rattle.affected_values.specs.Carried.{HasCellsOf, moved_rows, moved_table}

-- but for these cells the documents have the same formula cells, which note the same in both
pub record ReadsSameAfter (s t : Document) (cells : List CellId) : Type 0 where
  pub there : (c : CellId) → on cells c ≡ false
      → is_some (formula_at s c) ≡ is_some (formula_at t c)
  pub same : (c : CellId) → is_some (formula_at t c) ≡ true → on cells c ≡ false
      → notes (sheet_of s) c ≡ notes (sheet_of t) c

-- over rows that come or go each cell but those of the rows has the formula that it had
abbrev pub RowsStayLaw : Type 0
RowsStayLaw =
    (s : Document) (a : DocAction) (t : List ℕ) (cells : List CellId)
    → moved_table a ≡ Some t → valid s a ≡ true
    → HasCellsOf s t (moved_rows a) cells → HasCellsOf (apply s a) t (moved_rows a) cells
    → (c : CellId) → on cells c ≡ false → formula_at (apply s a) c ≡ formula_at s c

-- over rows that come or go each cell but the found ones and those of the rows notes the same
abbrev pub ReadsOverLaw : Type 0
ReadsOverLaw =
    (s : Document) (a : DocAction) (t : List ℕ) (graph : Graph) (found : List CellNumber)
    (cells : List CellId)
    → moved_table a ≡ Some t → valid s a ≡ true → KeepsOthers s graph a found
    → ((c : CellId) → is_found graph found c ≡ true → on cells c ≡ true)
    → HasCellsOf s t (moved_rows a) cells → HasCellsOf (apply s a) t (moved_rows a) cells
    → ReadsSameAfter s (apply s a) cells
