use Rattle.recalc.proofs.Settled.{settled_law}
use Rattle.recalc.proofs.laws.settled_law.Goals as goal

pub returns : goal.returns
returns c = settled_law
