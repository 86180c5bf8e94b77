use Rattle.bundle_traces.proofs.Traces.{is_step}
use Rattle.bundle_traces.proofs.laws.trace_law.Goals as goal

pub returns : goal.returns
returns c = is_step
