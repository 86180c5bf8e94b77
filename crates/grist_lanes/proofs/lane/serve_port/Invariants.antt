use Rattle.std.proofs.Common.{◌-◌}
use Rattle.session_gate.specs.Gate.{IsPassOf}
use Rattle.grist_lanes.specs.Services.{ServesSome, lane_view, telling}
use Rattle.grist_lanes.proofs.lane.serve_port.Given as goal

-- the connections so far were served
abbrev pub invariant-loop-number : goal.invariant-loop-number
invariant-loop-number g l = record {
  own : IsPassOf l.gate l.pass;
  some : ServesSome (telling g.P.Conn.Source.left g.P.Conn.Sink.written g.P.Conn.Source.faults g.P.Conn.Sink.faults)
      l.lane (g.P.Port.state l.fn.port) (g.P.Port.state l.port) (lane_view l.fn.pass l.fn.shots.known) (lane_view l.pass l.shots.known) l.number;
}

abbrev pub decreases-loop-number : goal.decreases-loop-number
decreases-loop-number g l = 4294967296 - (g.P.Port.state l.port).handed
