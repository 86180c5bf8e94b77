use Rattle.rename_flow.proofs.RuleTreeLemmas.{rule_rewritten}
use Rattle.rename_flow.proofs.laws.rewritten_rule_law.Goals as goal

pub returns : goal.returns
returns c = rule_rewritten
