use Rattle.recalc.proofs.FilledLaws.{same_parts_law}
use Rattle.recalc.proofs.laws.same_parts_law.Goals as goal

pub returns : goal.returns
returns c = same_parts_law
