use Rattle.std.proofs.Common.{◌≡◌, ◌≤◌, ◌+◌, ◌++◌, map, reverse, vec_len, vec_capacity}
use Rattle.grist_lanes.proofs.lanes.join_lanes.Given as goal

-- the ports, passes and readers that are left, and then those of the lanes, the last first
abbrev pub invariant-loop-port : goal.invariant-loop-port
invariant-loop-port g l = record {
  same : vec_len l.ports ≡ vec_len l.passes;
  same_readers : vec_len l.ports ≡ vec_len l.readers;
  room : vec_len l.lanes + vec_len l.ports ≤ vec_capacity l.lanes;
  ports : l.ports.items ++ reverse (map (λ x. x.port) l.lanes.items) ≡ l.fn.ports.items;
  passes : l.passes.items ++ reverse (map (λ x. x.pass) l.lanes.items) ≡ l.fn.passes.items;
  readers : l.readers.items ++ reverse (map (λ x. x.shots) l.lanes.items) ≡ l.fn.readers.items;
  port_room : vec_capacity l.ports ≡ vec_capacity l.fn.ports;
  pass_room : vec_capacity l.passes ≡ vec_capacity l.fn.passes;
}

abbrev pub decreases-loop-port : goal.decreases-loop-port
decreases-loop-port g l = vec_len l.ports
