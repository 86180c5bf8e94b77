-- What a graph holds of the formula cells of a document, and what a search over it tells of them.
use Rattle.std.specs.Prelude.{ℕ, Bool, true, false, List, Some, None, ◌≡◌}
use Rattle.std.specs.List.{AllByRecursion, list_any}
use Rattle.std.specs.Option.{is_some}
use Rattle.cell_types.specs.declared.cell.CellId.{CellId}
use Rattle.cell_types.specs.declared.cell.Read.{Read}
use Rattle.doc_model.specs.declared.action.DocAction.{DocAction}
use Rattle.doc_model.specs.Apply.{apply}
use Rattle.doc_model.specs.Document.{Document}
use Rattle.formula_eval.specs.declared.note.Note.{Note}
use Rattle.formula_eval.specs.Run.{reads_of}
use Rattle.recalc.specs.Evaluated.{sheet_of}
use Rattle.recalc.specs.Sheet.{Sheet, evaluated, reads}
use Rattle.affected_cells.specs.Affected.{affected, is_fresh_cell}
use Rattle.affected_cells.specs.Touched.{is_touched}
use Rattle.affected_cells.specs.TouchedRight.{TouchesRight}
use Rattle.dep_graph.specs.declared.numbers.CellNumber.{CellNumber}
use Rattle.dep_graph.specs.declared.numbers.ColumnNumber.{ColumnNumber}
use Rattle.dep_graph.specs.declared.numbers.ReadNumber.{ReadNumber}
use Rattle.dep_graph.specs.declared.numbers.ReadNumber.TheVariants as read
use Rattle.dep_graph.specs.Graph.{Graph}
use Rattle.dep_graph.specs.Numbers.{is_read}
use Rattle.dep_graph.specs.Records.{holds, reads_under}
use Rattle.dep_graph.specs.Sources.{AreNumbers, cell_in, read_source, source_in, sources}
use Rattle.affected_search.specs.Reached.{is_among, reads_one, IsClosed, IsReached}

-- the read has a number, which is one of these
abbrev pub IsHeld : List (List ℕ) → List ReadNumber → Read → Type 0
IsHeld names numbers q = (n : ReadNumber)
    × (source_in names (read_source q) ≡ Some n) × (holds numbers n ≡ true)

-- the graph has the reads of each formula cell
abbrev pub HoldsReads : Graph → Sheet → Type 0
HoldsReads graph s = (c : CellId) (f : List ℕ) → s.formula c ≡ Some f
    → (k : CellNumber) × (cell_in graph.names c ≡ Some k)
    × AllByRecursion (IsHeld graph.names (reads_under graph.reads k)) (reads s c)

-- what reads something touched reads one of these
abbrev pub ListsTouched : Graph → (Read → Bool) → List ReadNumber → Type 0
ListsTouched graph touched numbers = (q : Read) (n : ReadNumber) (k : CellNumber)
    → source_in graph.names (read_source q) ≡ Some n → touched q ≡ true
    → holds (reads_under graph.reads k) n ≡ true → reads_one graph.reads numbers k ≡ true

-- whether the number of the cell is one of these
abbrev pub is_found : Graph → List CellNumber → CellId → Bool
is_found graph cells c = elim (cell_in graph.names c) [ None ↦ false | Some k ↦ is_among cells k ]

-- the reads that are recorded of a run's notes are held
abbrev pub HeldLaw : Type 0
HeldLaw = (names : List (List ℕ)) (notes : List Note) (numbers : List ReadNumber)
    → AreNumbers names (sources notes) numbers
    → AllByRecursion (IsHeld names numbers) (reads_of notes)

-- a formula cell that is not found keeps its value and its reads, unless it is new or its column is
-- modified
abbrev pub FoundLaw : Type 0
FoundLaw = (s : Document) (a : DocAction) (graph : Graph) (numbers : List ReadNumber)
    (cells : List CellNumber) → TouchesRight s a → HoldsReads graph (sheet_of s)
    → ListsTouched graph (is_touched s a) numbers → IsClosed graph.reads numbers cells
    → (c : CellId) (f : List ℕ) → (sheet_of (apply s a)).formula c ≡ Some f
    → is_fresh_cell s a c ≡ false → is_found graph cells c ≡ false
    → (evaluated (sheet_of (apply s a)) c ≡ evaluated (sheet_of s) c)
    × (reads (sheet_of (apply s a)) c ≡ reads (sheet_of s) c)

-- whether this is the number of the read
abbrev pub has_number : List (List ℕ) → ReadNumber → Read → Bool
has_number names n q = elim (source_in names (read_source q)) [
  | None ↦ false
  | Some m ↦ is_read m n
]

-- the graph has reads of formula cells alone, and of them no cells and key columns that they do not
-- read
pub record HoldsOnlyReads (graph : Graph) (s : Sheet) : Type 0 where
  pub formula : (c : CellId) (k : CellNumber) (n : ReadNumber) → cell_in graph.names c ≡ Some k
      → holds (reads_under graph.reads k) n ≡ true → is_some (s.formula c) ≡ true
  pub cell : (c : CellId) (k d : CellNumber) → cell_in graph.names c ≡ Some k
      → holds (reads_under graph.reads k) (read.Cell d) ≡ true
      → list_any (has_number graph.names (read.Cell d)) (reads s c) ≡ true
  pub key : (c : CellId) (k : CellNumber) (j : ColumnNumber) → cell_in graph.names c ≡ Some k
      → holds (reads_under graph.reads k) (read.Key j) ≡ true
      → list_any (has_number graph.names (read.Key j)) (reads s c) ≡ true

-- what reads one of these reads something touched
abbrev pub ListsOnlyTouched : Graph → Sheet → (Read → Bool) → List ReadNumber → Type 0
ListsOnlyTouched graph s touched numbers = (c : CellId) (k : CellNumber)
    → cell_in graph.names c ≡ Some k → reads_one graph.reads numbers k ≡ true
    → list_any touched (reads s c) ≡ true

-- a formula cell that is reached is one that the action may affect
abbrev pub WithinLaw : Type 0
WithinLaw = (s : Document) (a : DocAction) (graph : Graph) (numbers : List ReadNumber)
    → TouchesRight s a → HoldsOnlyReads graph (sheet_of s)
    → ListsOnlyTouched graph (sheet_of s) (is_touched s a) numbers
    → (c : CellId) (k : CellNumber) (f : List ℕ) → (sheet_of (apply s a)).formula c ≡ Some f
    → cell_in graph.names c ≡ Some k → IsReached graph.reads numbers k → affected s a c ≡ true
