use Rattle.std.proofs.Common.{◌≡◌, ◌≤◌, ◌*◌, take}
use Rattle.std.specs.Prelude.{sum_by}
use Rattle.grist_lanes.proofs.lanes.connections_of.Given as goal

-- the sum of the lanes so far
abbrev pub invariant-loop-lane : goal.invariant-loop-lane
invariant-loop-lane g l = record {
  total : l.connections ≡ sum_by (λ x. x.end.connections) (take l.lane-index l.lanes);
  few : l.connections ≤ l.lane-index * 4294967295;
}
