use Rattle.std.proofs.Common.{◌≡◌, ◌++◌, drop}
use Rattle.evaluated_doc.specs.Touching.{cells_numbers}
use Rattle.evaluated_doc.proofs.touching.push_cells.Given as goal

-- the numbers so far, and those of the cells that are to come
abbrev pub invariant-loop-cell : goal.invariant-loop-cell
invariant-loop-cell l =
    l.numbers.items ++ cells_numbers l.graph.names (drop l.cell-index l.cells)
    ≡ l.fn.numbers.items ++ cells_numbers l.graph.names l.cells
