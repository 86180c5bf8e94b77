use Rattle.grist_lanes.specs.Services.{telling}
use Rattle.grist_lanes.proofs.FullLemmas.{full-law}
use Rattle.grist_lanes.proofs.laws.full_law.Goals as goal

pub returns : goal.returns
returns g c = full-law (telling g.P.Conn.Source.left g.P.Conn.Sink.written g.P.Conn.Source.faults g.P.Conn.Sink.faults)
