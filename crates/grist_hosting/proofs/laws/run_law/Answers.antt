use Rattle.grist_lanes.specs.Services.{telling}
use Rattle.grist_hosting.proofs.CompleteLemmas.{completeness-laws}
use Rattle.grist_hosting.proofs.laws.run_law.Goals as goal

pub returns : goal.returns
returns g c = completeness-laws (telling g.P.Conn.Source.left g.P.Conn.Sink.written g.P.Conn.Source.faults g.P.Conn.Sink.faults)
