-- The reads of cells that pass a test, each once.
use Rattle.std.specs.Prelude.{Bool, cond, List, [], ◌∷◌, ◌++◌, None, Some}
use Rattle.cell_types.specs.declared.cell.CellId.{CellId}
use Rattle.dep_graph.specs.declared.numbers.ReadNumber.{ReadNumber}
use Rattle.dep_graph.specs.Graph.{Graph}
use Rattle.dep_graph.specs.Records.{holds, reads_under}
use Rattle.dep_graph.specs.Sources.{cell_in}

-- the reads that the graph has of a cell
abbrev pub recorded : Graph → CellId → List ReadNumber
recorded graph c =
    elim (cell_in graph.names c) [ None ↦ [] | Some k ↦ reads_under graph.reads k ]

-- the reads with this one, once
abbrev pub with_read : ReadNumber → List ReadNumber → List ReadNumber
with_read q reads = cond (holds reads q) reads (reads ++ q ∷ [])

module _ (test : ReadNumber → Bool) where
  -- with those of more reads that pass
  abbrev pub with_passing : List ReadNumber → List ReadNumber → List ReadNumber
  with_passing reads [] = reads
  with_passing reads (q ∷ qs) = with_passing (cond (test q) (with_read q reads) reads) qs

  -- with those of cells
  abbrev pub with_cells : Graph → List ReadNumber → List CellId → List ReadNumber
  with_cells graph reads [] = reads
  with_cells graph reads (c ∷ cs) =
      with_cells graph (with_passing reads (recorded graph c)) cs
