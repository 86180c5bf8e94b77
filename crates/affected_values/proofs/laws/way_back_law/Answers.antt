use Rattle.affected_values.proofs.WaysBack.{way_back}
use Rattle.affected_values.proofs.laws.way_back_law.Goals as goal

pub returns : goal.returns
returns c = way_back
