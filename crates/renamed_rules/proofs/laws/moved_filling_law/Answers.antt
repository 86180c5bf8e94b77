use Rattle.renamed_rules.proofs.MovedFillings.{moved_filling}
use Rattle.renamed_rules.proofs.laws.moved_filling_law.Goals as goal

pub returns : goal.returns
returns c = moved_filling c.renamed_filling_law.ensures
