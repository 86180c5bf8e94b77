use Rattle.affected_values.proofs.SamePlaces.{left_right}
use Rattle.affected_values.proofs.laws.left_right_law.Goals as goal

pub returns : goal.returns
returns c = left_right
