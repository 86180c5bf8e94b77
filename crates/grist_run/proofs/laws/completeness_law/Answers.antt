use Rattle.grist_run.proofs.Complete.{completeness}
use Rattle.grist_run.proofs.laws.completeness_law.Goals as goal

pub returns : goal.returns
returns c = completeness
