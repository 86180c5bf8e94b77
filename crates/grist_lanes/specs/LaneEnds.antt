-- What a lane tells of its port at its end.
use Rattle.std.specs.Prelude.{◌≡◌, ◌≤◌, ◌+◌}
use Rattle.io_edges.specs.Ports.{PortState, handed_bound}
use Rattle.grist_lanes.specs.Services.{StopsBy}
use Rattle.grist_lanes.specs.declared.lanes.LaneEnd.{LaneEnd}

-- so many connections were handed out in between, and the port stopped so
pub record EndsLane {Conn : Type 0} (end : LaneEnd) (old new : PortState Conn) : Type 0 where
  pub handed : new.handed ≡ old.handed + end.connections
  pub few : end.connections ≤ handed_bound
  pub stops : StopsBy end.has_ended old new
