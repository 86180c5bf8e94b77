use Rattle.name_rules.proofs.FreshNames.{free_name-fresh}
use Rattle.name_rules.proofs.laws.fresh_law.Goals as goal

pub returns : goal.returns
returns c = free_name-fresh
