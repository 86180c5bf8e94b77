use Rattle.std.proofs.Common.{ℕ}
use Rattle.grist_lanes.proofs.opening.close_gate.Given as goal

-- it is not reached
abbrev pub invariant-loop : goal.invariant-loop
invariant-loop g l = ⊥

abbrev pub decreases-loop : goal.decreases-loop
decreases-loop g l = 0
