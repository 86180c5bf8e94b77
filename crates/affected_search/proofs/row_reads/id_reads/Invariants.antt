use Rattle.std.proofs.Common.{◌≡◌, ◌++◌, map, drop}
use Rattle.dep_graph.specs.declared.numbers.ReadNumber.TheVariants as read
use Rattle.affected_search.specs.RowValues.{value_at}
use Rattle.affected_search.proofs.row_reads.id_reads.Given as goal

-- the rows so far, and those that are to come
abbrev pub invariant-loop-row : goal.invariant-loop-row
invariant-loop-row l =
    l.reads.items ++ map (λ r. read.Value (value_at l.column r)) (drop l.row-index l.rows)
    ≡ map (λ r. read.Value (value_at l.column r)) l.rows
