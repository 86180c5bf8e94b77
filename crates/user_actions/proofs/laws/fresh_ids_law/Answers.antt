use Rattle.user_actions.proofs.FreshIdsLemmas.{HasFresh-allowed}
use Rattle.user_actions.proofs.laws.fresh_ids_law.Goals as goal

pub returns : goal.returns
returns c = HasFresh-allowed
