-- What runs of cells note, as far as a graph has it.
use Rattle.std.specs.Prelude.{true, List, ◌≡◌}
use Rattle.std.specs.List.{AllByRecursion}
use Rattle.cell_types.specs.declared.cell.CellId.{CellId}
use Rattle.dep_graph.specs.Graph.{Graph}
use Rattle.doc_model.specs.Document.{Document}
use Rattle.recalc.specs.Evaluated.{sheet_of}
use Rattle.recalc.specs.Sheet.{Sheet}
use Rattle.recalc.specs.Stack.{on}
use Rattle.affected_search.specs.ExactNotes.{HasNotesOf, KeepsExact}

-- what the graph had of notes it has still, and no more
abbrev pub KeepsReads : Sheet → Graph → Graph → Type 0
KeepsReads s old new = KeepsExact s old new

-- the graph has just what the cell's run notes; nothing of a cell without a formula
abbrev pub IsRead : Document → Graph → CellId → Type 0
IsRead s graph c = HasNotesOf graph (sheet_of s) c

-- so it has of each of these
abbrev pub AreRead : Document → Graph → List CellId → Type 0
AreRead s graph cells = (c : CellId) → on cells c ≡ true → IsRead s graph c

-- so it has of each cell of the list
abbrev pub EachIsRead : Document → Graph → List CellId → Type 0
EachIsRead s graph cells = AllByRecursion (IsRead s graph) cells
