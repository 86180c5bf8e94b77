use Rattle.affected_values.proofs.WaysBack.{leads_over}
use Rattle.affected_values.proofs.laws.leads_over_law.Goals as goal

pub returns : goal.returns
returns c = leads_over
