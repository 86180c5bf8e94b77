use Rattle.par_recalc.proofs.CycleLemmas.{level_law}
use Rattle.par_recalc.proofs.laws.level_law.Goals as goal

pub returns : goal.returns
returns c = level_law
