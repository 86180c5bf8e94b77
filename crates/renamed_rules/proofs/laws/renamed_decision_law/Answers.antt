use Rattle.renamed_rules.proofs.SameDecisions.{same_decision}
use Rattle.renamed_rules.proofs.laws.renamed_decision_law.Goals as goal

pub returns : goal.returns
returns c = same_decision
