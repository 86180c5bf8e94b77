use Rattle.std.proofs.Common.{◌≡◌, ◌∷◌, ◌-◌, ◌≤◌, length}
use Rattle.dep_graph.specs.declared.numbers.ReadNumber.TheVariants as read
use Rattle.affected_search.specs.Listed.{cells_below}
use Rattle.affected_search.proofs.listed.moved_cells.Given as goal

-- the columns below this one are there
abbrev pub invariant-loop-reads : goal.invariant-loop-reads
invariant-loop-reads l =
    (l.reads.items ≡ read.All l.table ∷ cells_below l.table l.rows l.column) × (l.column ≤ length l.graph.names)

abbrev pub decreases-loop-reads : goal.decreases-loop-reads
decreases-loop-reads l = length l.graph.names - l.column
