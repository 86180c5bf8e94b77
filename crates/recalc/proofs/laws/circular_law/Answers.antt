use Rattle.recalc.proofs.Circular.{circular_law}
use Rattle.recalc.proofs.laws.circular_law.Goals as goal

pub returns : goal.returns
returns c = circular_law
