-- When a graph holds what cells note, and no more.
use Rattle.std.specs.Prelude.{ℕ, true, List, [], None, Some, ◌≡◌}
use Rattle.std.specs.Option.{is_some}
use Rattle.cell_types.specs.declared.cell.CellId.{CellId}
use Rattle.recalc.specs.Sheet.{Sheet}
use Rattle.affected_cells.specs.Noted.{notes}
use Rattle.dep_graph.specs.declared.numbers.CellNumber.{CellNumber}
use Rattle.dep_graph.specs.Graph.{Graph, IsDropped, IsKept}
use Rattle.dep_graph.specs.Names.{IsGrown}
use Rattle.dep_graph.specs.Records.{reads_under}
use Rattle.dep_graph.specs.Sources.{AreNumbers, cell_in, sources}
use Rattle.affected_search.specs.Listed.{HoldsNoMore}
use Rattle.affected_search.specs.Noted.{HoldsNotes}

-- the reads that the graph has of a cell are the numbers of what its run notes, in order, and so of
-- a cell without a formula there are none; so it stays as more names get numbers
pub record HasNotesOf (graph : Graph) (s : Sheet) (c : CellId) : Type 0 where
  pub number : is_some (s.formula c) ≡ true → is_some (cell_in graph.names c) ≡ true
  pub reads : (names : List (List ℕ)) (k : CellNumber) → IsGrown graph.names names
      → cell_in names c ≡ Some k
      → AreNumbers names (sources (notes s c)) (reads_under graph.reads k)

-- so it is of each cell
abbrev pub HasNotes : Graph → Sheet → Type 0
HasNotes graph s = (c : CellId) → HasNotesOf graph s c

-- then it holds what formula cells note, and nothing but what they note
abbrev pub ExactLaw : Type 0
ExactLaw = (graph : Graph) (s : Sheet)
    → HasNotes graph s → HoldsNotes graph s × HoldsNoMore graph s

-- what it has of a cell it has still
abbrev pub KeepsExact : Sheet → Graph → Graph → Type 0
KeepsExact s old new = (c : CellId) → HasNotesOf old s c → HasNotesOf new s c

-- so it is where each cell reads what it read
abbrev pub KeptExactLaw : Type 0
KeptExactLaw = (s : Sheet) (old new : Graph) → IsKept old new → KeepsExact s old new

-- once a cell without a formula reads nothing, the graph has just what it notes
pub record IsDroppedOf (new old : Graph) (s : Sheet) (reader : CellId) : Type 0 where
  pub here : HasNotesOf new s reader
  pub others : KeepsExact s old new

abbrev pub DroppedExactLaw : Type 0
DroppedExactLaw = (s : Sheet) (old new : Graph) (reader : CellId)
    → IsDropped old new reader → s.formula reader ≡ None → IsDroppedOf new old s reader

-- no cell reads anything
abbrev pub HasNoReads : Graph → Type 0
HasNoReads graph = (k : CellNumber) → reads_under graph.reads k ≡ []

-- then it has just what cells without formulas note
abbrev pub NoneExactLaw : Type 0
NoneExactLaw = (s : Sheet) (graph : Graph) → HasNoReads graph
    → (c : CellId) → s.formula c ≡ None → HasNotesOf graph s c
