use Rattle.censored_view.proofs.PartsMade.{part_made}
use Rattle.censored_view.proofs.laws.part_made_law.Goals as goal

pub returns : goal.returns
returns c = part_made
