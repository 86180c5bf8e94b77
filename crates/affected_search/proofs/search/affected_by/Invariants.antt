use Rattle.std.proofs.Common.{◌-◌, length}
use Rattle.affected_search.proofs.SearchLaws.{IsUnderway}
use Rattle.affected_search.proofs.search.affected_by.Given as goal

abbrev pub invariant-loop-place : goal.invariant-loop-place
invariant-loop-place l = IsUnderway l.graph.reads l.touched l.found l.keys.keys l.place

-- no more cells are found than the graph has reads of
abbrev pub decreases-loop-place : goal.decreases-loop-place
decreases-loop-place l = length l.graph.reads - l.place
