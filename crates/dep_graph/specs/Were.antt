-- What cells read before, noted one after the other.
use Rattle.std.specs.Prelude.{ℕ, List, [], ◌∷◌, ◌++◌, None, Some, Vec, ◌≡◌, ◌⊎◌}
use Rattle.std.specs.Global.{Global}
use Rattle.cell_types.specs.declared.cell.CellId.{CellId}
use Rattle.dep_graph.specs.declared.numbers.CellNumber.{CellNumber}
use Rattle.dep_graph.specs.declared.numbers.ReadNumber.{ReadNumber}
use Rattle.dep_graph.specs.Graph.{Graph, IsKept}
use Rattle.dep_graph.specs.Named.{Were, sources_told}
use Rattle.dep_graph.specs.Names.{IsGrown}
use Rattle.dep_graph.specs.Records.{HasSameReads, reads_under}
use Rattle.dep_graph.specs.Sources.{AreNumbers, Source, cell_in}

-- it was noted last that the cell read what these numbers stand for
abbrev pub IsNotedTold : List (List ℕ) → List ReadNumber → CellId → List Were → List Were → Type 0
IsNotedTold names reads c log next =
    (w : Were) × (next ≡ log ++ w ∷ []) × (w.cell ≡ c) × (w.reads ≡ sources_told names reads)

-- each cell has the reads that it had; or it was noted last what the cell had, if it has others
abbrev pub IsNoted : List (List ℕ) → List (CellNumber × Vec ReadNumber Global)
    → List (CellNumber × Vec ReadNumber Global) → CellId → CellNumber → List Were → List Were
    → Type 0
IsNoted names old new c k log next =
    ((next ≡ log) × HasSameReads old new) ⊎ IsNotedTold names (reads_under old k) c log next

-- the graph has of the cell just the numbers of this; of a cell without a number there is none
pub record IsReadBy (graph : Graph) (c : CellId) (xs : List Source) : Type 0 where
  pub numbers : (names : List (List ℕ)) (k : CellNumber) → IsGrown graph.names names
      → cell_in names c ≡ Some k → AreNumbers names xs (reads_under graph.reads k)
  pub none : cell_in graph.names c ≡ None → xs ≡ []

-- this is what the graph has of the cell
abbrev pub HadReads : Graph → CellId → List Source → Type 0
HadReads graph c xs = (ys : List Source) → IsReadBy graph c ys → xs ≡ ys

-- it was noted last what the graph has of the cell
abbrev pub IsNotedLast : Graph → CellId → List Were → List Were → Type 0
IsNotedLast old c log next =
    (w : Were) × (next ≡ log ++ w ∷ []) × (w.cell ≡ c) × HadReads old c w.reads

-- each cell reads what it read; or it was noted last what the one cell read that may read others
abbrev pub IsLogged : Graph → Graph → CellId → List Were → List Were → Type 0
IsLogged old new c log next = ((next ≡ log) × IsKept old new) ⊎ IsNotedLast old c log next
