use Rattle.std.proofs.Common.{◌≤◌}
use Rattle.io_edges.proofs.accepting.next_stream.Given as goal

abbrev pub invariant-loop : goal.invariant-loop
invariant-loop g l = l.fn.faults ≤ l.faults
