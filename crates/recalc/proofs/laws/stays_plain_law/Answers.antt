use Rattle.recalc.proofs.PlainLemmas.{stays_plain}
use Rattle.recalc.proofs.laws.stays_plain_law.Goals as goal

pub returns : goal.returns
returns c = stays_plain
