use Rattle.value_ops.proofs.RaisingLemmas.{operators_fine}
use Rattle.value_ops.proofs.laws.raising_law.Goals as goal

pub returns : goal.returns
returns c = operators_fine
