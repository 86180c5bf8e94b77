use Rattle.action_censor.proofs.ToldLemmas.{changes-told}
use Rattle.action_censor.proofs.laws.told_law.Goals as goal

pub returns : goal.returns
returns c = changes-told c.narrow_law.ensures
