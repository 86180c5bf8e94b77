use Rattle.std.proofs.Common.{◌≡◌, ◌++◌, map, take}
use Rattle.dep_graph.specs.declared.numbers.ReadNumber.TheVariants as read
use Rattle.dep_graph.specs.NumberLaws.{cell_with}
use Rattle.dep_graph.proofs.noting.push_cells.Given as goal

-- what was passed is there
abbrev pub invariant-loop-row : goal.invariant-loop-row
invariant-loop-row l = l.reads.items ≡ l.initial.reads.items ++ map (λ r. read.Cell (cell_with l.column r)) (take l.row-index l.rows)
