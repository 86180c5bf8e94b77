use Rattle.rule_contexts.proofs.SameContexts.{context_stays}
use Rattle.rule_contexts.proofs.laws.same_context_law.Goals as goal

pub returns : goal.returns
returns c = context_stays c.laid_out_law.ensures c.trace_law.ensures
