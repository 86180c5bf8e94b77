use Rattle.bundle_traces.proofs.Bundles.{views_back}
use Rattle.bundle_traces.proofs.laws.bundle_law.Goals as goal

pub returns : goal.returns
returns c = views_back c.laid_out_law.ensures c.steps_law.ensures
