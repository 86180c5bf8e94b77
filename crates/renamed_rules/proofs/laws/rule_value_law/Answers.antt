use Rattle.renamed_rules.proofs.RuleValueLemmas.{rule_value}
use Rattle.renamed_rules.proofs.laws.rule_value_law.Goals as goal

pub returns : goal.returns
returns c = rule_value
