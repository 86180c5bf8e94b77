use Rattle.rule_contexts.proofs.SameContexts.{attributes_stay}
use Rattle.rule_contexts.proofs.laws.same_attributes_law.Goals as goal

pub returns : goal.returns
returns c = attributes_stay c.laid_out_law.ensures c.trace_law.ensures
