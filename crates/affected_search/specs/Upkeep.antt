-- How a graph is kept up: what it has to hold once cells are recorded anew.
use Rattle.std.specs.Prelude.{ℕ, true, false, ◌||◌, List, Some, ◌≡◌}
use Rattle.std.specs.List.{AllByRecursion}
use Rattle.cell_types.specs.declared.cell.CellId.{CellId}
use Rattle.doc_model.specs.declared.action.DocAction.{DocAction}
use Rattle.doc_model.specs.Apply.{apply}
use Rattle.doc_model.specs.Document.{Document}
use Rattle.doc_model.specs.Valid.{valid}
use Rattle.formula_eval.specs.declared.note.Note.{Note}
use Rattle.formula_eval.specs.Run.{reads_of}
use Rattle.recalc.specs.Evaluated.{sheet_of}
use Rattle.recalc.specs.Sheet.{Sheet, reads}
use Rattle.affected_cells.specs.Affected.{is_fresh_cell}
use Rattle.dep_graph.specs.declared.numbers.CellNumber.{CellNumber}
use Rattle.dep_graph.specs.Graph.{Graph, IsSet}
use Rattle.dep_graph.specs.Records.{reads_under}
use Rattle.dep_graph.specs.Sources.{cell_in}
use Rattle.affected_search.specs.Actions.{KeepsOthers}
use Rattle.affected_search.specs.Sheets.{HoldsReads, IsHeld, is_found}

-- the graph has the reads of the cell
abbrev pub HoldsReadsOf : Graph → Sheet → CellId → Type 0
HoldsReadsOf graph s c = (k : CellNumber) × (cell_in graph.names c ≡ Some k)
    × AllByRecursion (IsHeld graph.names (reads_under graph.reads k)) (reads s c)

-- after a cell was set to the notes of its run the graph has its reads, and those that it had
pub record IsRecordedOf (new : Graph) (old : Graph) (s : Sheet) (reader : CellId) : Type 0 where
  pub here : HoldsReadsOf new s reader
  pub others : (c : CellId) → HoldsReadsOf old s c → HoldsReadsOf new s c

abbrev pub SetLaw : Type 0
SetLaw = (old new : Graph) (s : Sheet) (reader : CellId) (notes : List Note)
    → IsSet old new reader notes → reads s reader ≡ reads_of notes → IsRecordedOf new old s reader

-- over an action the graph has the reads of each formula cell again, once it has those of the cells
-- that are new or found, and of each other cell those that it had
abbrev pub CarriedLaw : Type 0
CarriedLaw = (s : Document) (a : DocAction) (graph new : Graph) (cells : List CellNumber)
    → valid s a ≡ true → HoldsReads graph (sheet_of s) → KeepsOthers s graph a cells
    → ((c : CellId) (f : List ℕ) → (sheet_of (apply s a)).formula c ≡ Some f
    → (is_fresh_cell s a c || is_found graph cells c) ≡ true
    → HoldsReadsOf new (sheet_of (apply s a)) c)
    → ((c : CellId) → is_found graph cells c ≡ false → HoldsReadsOf graph (sheet_of s) c
    → HoldsReadsOf new (sheet_of s) c)
    → HoldsReads new (sheet_of (apply s a))
