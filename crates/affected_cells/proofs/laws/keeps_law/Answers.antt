use Rattle.affected_cells.proofs.KeptLaws.{keeps_law}
use Rattle.affected_cells.proofs.laws.keeps_law.Goals as goal

pub returns : goal.returns
returns c = keeps_law
