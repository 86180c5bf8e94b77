use Rattle.std.proofs.Common.{◌≡◌, ◌++◌, map, drop}
use Rattle.dep_graph.specs.declared.numbers.ReadNumber.TheVariants as read
use Rattle.affected_search.specs.CellNumbers.{cell_at}
use Rattle.affected_search.proofs.listed.push_cells.Given as goal

-- the cells so far, and those that are to come
abbrev pub invariant-loop-row : goal.invariant-loop-row
invariant-loop-row l =
    l.reads.items ++ map (λ r. read.Cell (cell_at l.column r)) (drop l.row-index l.rows)
    ≡ l.fn.reads.items ++ map (λ r. read.Cell (cell_at l.column r)) l.rows
