use Rattle.std.proofs.Common.{◌≡◌, ◌≤◌, ◌+◌, ◌++◌, map, reverse, vec_len, vec_capacity}
use Rattle.grist_lanes.proofs.lanes.part_lanes.Given as goal

-- the ports and passes so far, and then those of the lanes that are left
abbrev pub invariant-loop-lane : goal.invariant-loop-lane
invariant-loop-lane g l = record {
  ports : l.ports.items ++ reverse (map (λ x. x.port) l.lanes.items) ≡ map (λ x. x.port) l.fn.lanes.items;
  passes : l.passes.items ++ reverse (map (λ x. x.pass) l.lanes.items) ≡ map (λ x. x.pass) l.fn.lanes.items;
  port_count : vec_len l.lanes + vec_len l.ports ≡ vec_len l.fn.lanes;
  pass_count : vec_len l.lanes + vec_len l.passes ≡ vec_len l.fn.lanes;
  port_room : vec_len l.fn.lanes ≤ vec_capacity l.ports;
  pass_room : vec_len l.fn.lanes ≤ vec_capacity l.passes;
}

abbrev pub decreases-loop-lane : goal.decreases-loop-lane
decreases-loop-lane g l = vec_len l.lanes
