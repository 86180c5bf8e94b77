use Rattle.std.proofs.Common.{◌≡◌, ◌++◌, map, drop, length}
use Rattle.dep_graph.specs.declared.numbers.ReadNumber.TheVariants as read
use Rattle.lookup_index.specs.Buckets.{part_buckets}
use Rattle.affected_search.specs.RowValues.{value_at}
use Rattle.affected_search.proofs.row_reads.push_parts.Given as goal

-- the parts so far, and those that are to come
abbrev pub invariant-loop-index : goal.invariant-loop-index
invariant-loop-index l =
    (l.reads.items ++ map (λ b. read.Part (value_at l.column b)) (drop l.index (part_buckets l.value))
    ≡ l.fn.reads.items ++ map (λ b. read.Part (value_at l.column b)) (part_buckets l.value))
    × (l.index-end ≡ length (part_buckets l.value))
