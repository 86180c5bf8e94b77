-- What a search by the reads that an action touches finds.
use Rattle.std.specs.Prelude.{ℕ, true, List, Some, ◌≡◌}
use Rattle.cell_types.specs.declared.cell.CellId.{CellId}
use Rattle.doc_model.specs.declared.action.DocAction.{DocAction}
use Rattle.doc_model.specs.Apply.{apply}
use Rattle.doc_model.specs.Document.{Document}
use Rattle.doc_model.specs.Valid.{valid}
use Rattle.recalc.specs.Evaluated.{sheet_of}
use Rattle.affected_cells.specs.Affected.{affected}
use Rattle.dep_graph.specs.declared.numbers.CellNumber.{CellNumber}
use Rattle.dep_graph.specs.Graph.{Graph}
use Rattle.dep_graph.specs.Sources.{cell_in}
use Rattle.affected_search.specs.Reached.{is_among}

-- where the action is valid there, a formula cell that is found is one that it may affect
abbrev pub FindsAffected : Document → Graph → DocAction → List CellNumber → Type 0
FindsAffected s graph a cells = valid s a ≡ true
    → (c : CellId) (k : CellNumber) (f : List ℕ) → (sheet_of (apply s a)).formula c ≡ Some f
    → cell_in graph.names c ≡ Some k → is_among cells k ≡ true → affected s a c ≡ true
