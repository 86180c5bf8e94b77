-- How a graph of what formula cells note is kept up.
use Rattle.std.specs.Prelude.{ℕ, Bool, true, false, ◌||◌, List, Option, Some, ◌≡◌}
use Rattle.cell_types.specs.declared.cell.CellId.{CellId}
use Rattle.formula_parse.specs.FormulaOf.{formula_of}
use Rattle.formula_parse.specs.Tree.{Tree}
use Rattle.formula_eval.specs.declared.note.Note.{Note}
use Rattle.formula_eval.specs.Reader.{Reader}
use Rattle.recalc.specs.Sheet.{Sheet, evaluated, over}
use Rattle.affected_cells.specs.Noted.{notes}
use Rattle.dep_graph.specs.declared.numbers.CellNumber.{CellNumber}
use Rattle.dep_graph.specs.Graph.{Graph, IsSet}
use Rattle.affected_search.specs.ExactNotes.{HasNotesOf, KeepsExact}
use Rattle.affected_search.specs.Noted.{HoldsNotes, HoldsNotesOf, KeepsNotes}
use Rattle.affected_search.specs.Sheets.{is_found}
use Rattle.affected_search.specs.Upkeep.{HoldsReadsOf}

-- after a cell was set to the notes of its run the graph has them, and those that it had; and no
-- more of the cell, nor of others than it had
pub record NotesRecordedOf (new : Graph) (old : Graph) (s : Sheet) (reader : CellId) : Type 0 where
  pub here : HoldsNotesOf new s reader
  pub others : (c : CellId) → HoldsNotesOf old s c → HoldsNotesOf new s c
  pub exact : HasNotesOf new s reader
  pub keeps : KeepsExact s old new

abbrev pub SetNotesLaw : Type 0
SetNotesLaw = (old new : Graph) (s : Sheet) (reader : CellId) (given : List Note)
    → IsSet old new reader given → notes s reader ≡ given → NotesRecordedOf new old s reader

-- of each sheet that is so read, all its values known, and has this formula in the cell
abbrev pub RecordsNotes : Reader → Option Tree → Graph → Graph → CellId → Type 0
RecordsNotes x tree old new c = (s : Sheet) (f : List ℕ) → s.formula c ≡ Some f
    → formula_of f ≡ tree → x ≡ over s (λ d. Some (evaluated s d)) → NotesRecordedOf new old s c

-- a graph that has what a cell's run notes has its reads
abbrev pub NotesReadsLaw : Type 0
NotesReadsLaw = (graph : Graph) (s : Sheet) (c : CellId)
    → HoldsNotesOf graph s c → HoldsReadsOf graph s c

-- over a change the graph has what each formula cell notes again, once it has that of the cells
-- that are fresh or found, and of each other cell what it had
abbrev pub CarriedNotesLaw : Type 0
CarriedNotesLaw = (s t : Sheet) (fresh : CellId → Bool) (graph new : Graph)
    (cells : List CellNumber)
    → ((c : CellId) (f : List ℕ) → t.formula c ≡ Some f → fresh c ≡ false → s.formula c ≡ Some f)
    → HoldsNotes graph s → KeepsNotes s t fresh graph cells
    → ((c : CellId) (f : List ℕ) → t.formula c ≡ Some f
    → (fresh c || is_found graph cells c) ≡ true → HoldsNotesOf new t c)
    → ((c : CellId) → is_found graph cells c ≡ false → HoldsNotesOf graph s c
    → HoldsNotesOf new s c)
    → HoldsNotes new t
