-- What an update leaves of the places of values.
use Rattle.std.specs.Prelude.{ℕ, true, List, ◌≡◌}
use Rattle.cell_types.specs.declared.cell.CellId.{CellId}
use Rattle.doc_model.specs.declared.action.DocAction.TheVariants.{BulkUpdate}
use Rattle.doc_model.specs.declared.column.CellColumn.{CellColumn}
use Rattle.doc_model.specs.Apply.{apply}
use Rattle.doc_model.specs.Document.{Document}
use Rattle.recalc.specs.declared.kept.KeptTable.{KeptTable}
use Rattle.doc_model.specs.Valid.{valid}
use Rattle.recalc.specs.Kept.{IsEvaluated, IsKeptOf, held_at}
use Rattle.recalc.specs.Stack.{on}
use Rattle.dep_graph.specs.declared.numbers.CellNumber.{CellNumber}
use Rattle.dep_graph.specs.Graph.{Graph}
use Rattle.affected_search.specs.Actions.{KeepsOthers}
use Rattle.affected_search.specs.Sheets.{is_found}
use Rattle.affected_values.specs.Taken.{IsRightBut}

-- what is kept of one document is kept of the other, each value in the same cell
pub record HasSamePlaces (s t : Document) (kept : List KeptTable) : Type 0 where
  pub of_document : IsKeptOf s kept → IsKeptOf t kept
  pub back : IsKeptOf t kept → IsKeptOf s kept
  pub held : (c : CellId) → held_at t kept c ≡ held_at s kept c

abbrev pub SamePlacesLaw : Type 0
SamePlacesLaw =
    (s : Document) (t rows : List ℕ) (ks : List CellColumn) (kept : List KeptTable)
    → HasSamePlaces s (apply s (BulkUpdate t rows ks)) kept

-- over an update the values of all cells but these are right still, where these are the found ones
abbrev pub LeftRightLaw : Type 0
LeftRightLaw =
    (s : Document) (t rows : List ℕ) (ks : List CellColumn) (graph : Graph)
    (found : List CellNumber) (cells : List CellId) (kept : List KeptTable)
    → valid s (BulkUpdate t rows ks) ≡ true → KeepsOthers s graph (BulkUpdate t rows ks) found
    → ((c : CellId) → is_found graph found c ≡ true → on cells c ≡ true)
    → IsEvaluated s kept → IsRightBut (apply s (BulkUpdate t rows ks)) kept cells
