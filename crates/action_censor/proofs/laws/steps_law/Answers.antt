use Rattle.action_censor.proofs.StepLemmas.{steps_back}
use Rattle.action_censor.proofs.laws.steps_law.Goals as goal

pub returns : goal.returns
returns c = steps_back
