use Rattle.affected_values.proofs.AlteredLemmas.{altered_right}
use Rattle.affected_values.proofs.laws.altered_law.Goals as goal

pub returns : goal.returns
returns c = altered_right
