use Rattle.rule_contexts.proofs.SameContexts.{changes_followed}
use Rattle.rule_contexts.proofs.laws.followed_law.Goals as goal

pub returns : goal.returns
returns c = changes_followed c.same_context_law.ensures c.bundle_law.ensures
