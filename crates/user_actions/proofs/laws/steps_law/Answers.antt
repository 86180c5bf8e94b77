use Rattle.user_actions.proofs.FreshIdsLemmas.{all_valid-allowed}
use Rattle.user_actions.proofs.laws.steps_law.Goals as goal

pub returns : goal.returns
returns c = all_valid-allowed
