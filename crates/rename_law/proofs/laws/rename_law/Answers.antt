use Rattle.rename_law.proofs.KeptValues.{keeps_all}
use Rattle.rename_law.proofs.laws.rename_law.Goals as goal

pub returns : goal.returns
returns c = keeps_all c.planned_values_law.ensures c.moved_filling_law.ensures c.renamed_decision_law.ensures
