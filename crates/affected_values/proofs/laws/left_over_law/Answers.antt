use Rattle.affected_values.proofs.LeftIndexes.{left_after}
use Rattle.affected_values.proofs.laws.left_over_law.Goals as goal

pub returns : goal.returns
returns c = left_after
