-- What a search over the graph tells of an action.
use Rattle.std.specs.Prelude.{true, List, ◌≡◌}
use Rattle.doc_model.specs.declared.action.DocAction.{DocAction}
use Rattle.doc_model.specs.Apply.{apply}
use Rattle.doc_model.specs.Document.{Document}
use Rattle.doc_model.specs.Valid.{valid}
use Rattle.recalc.specs.Evaluated.{sheet_of}
use Rattle.affected_cells.specs.Affected.{is_fresh_cell}
use Rattle.dep_graph.specs.declared.numbers.CellNumber.{CellNumber}
use Rattle.dep_graph.specs.Graph.{Graph}
use Rattle.affected_search.specs.Noted.{KeepsNotes}

-- where the action is valid there, a formula cell that is not found and is not new keeps its value
-- and what its run notes
abbrev pub KeepsOthers : Document → Graph → DocAction → List CellNumber → Type 0
KeepsOthers s graph a cells = valid s a ≡ true
    → KeepsNotes (sheet_of s) (sheet_of (apply s a)) (is_fresh_cell s a) graph cells
