use Rattle.action_censor.proofs.NarrowLemmas.{changes-narrow}
use Rattle.action_censor.proofs.laws.narrow_law.Goals as goal

pub returns : goal.returns
returns c = changes-narrow c.censored_part_law.ensures c.part_made_law.ensures
