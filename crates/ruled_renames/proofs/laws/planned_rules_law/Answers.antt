use Rattle.ruled_renames.proofs.KeptDecisions.{keeps_rules}
use Rattle.ruled_renames.proofs.laws.planned_rules_law.Goals as goal

pub returns : goal.returns
returns c = keeps_rules c.planned_rows_law.ensures c.following_rows_law.ensures c.planned_values_law.ensures c.moved_filling_law.ensures c.renamed_decision_law.ensures
