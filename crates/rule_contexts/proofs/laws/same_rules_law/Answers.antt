use Rattle.rule_contexts.proofs.SameContexts.{rules_stay}
use Rattle.rule_contexts.proofs.laws.same_rules_law.Goals as goal

pub returns : goal.returns
returns c = rules_stay c.laid_out_law.ensures c.trace_law.ensures
