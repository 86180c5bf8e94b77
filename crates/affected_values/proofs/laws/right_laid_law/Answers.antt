use Rattle.affected_values.proofs.RowsOver.{right_laid}
use Rattle.affected_values.proofs.laws.right_laid_law.Goals as goal

pub returns : goal.returns
returns c = right_laid
