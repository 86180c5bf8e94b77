use Rattle.affected_values.proofs.LeftIndexes.{left_back}
use Rattle.affected_values.proofs.laws.left_back_law.Goals as goal

pub returns : goal.returns
returns c = left_back
