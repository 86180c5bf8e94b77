use Rattle.context_changes.proofs.ToldLemmas.{since_views}
use Rattle.context_changes.proofs.laws.since_law.Goals as goal

pub returns : goal.returns
returns c = since_views
