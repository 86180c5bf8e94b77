use Rattle.recalc.proofs.FilledLaws.{laid_out_law}
use Rattle.recalc.proofs.laws.laid_out_law.Goals as goal

pub returns : goal.returns
returns c = laid_out_law
