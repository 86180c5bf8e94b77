use Rattle.censored_view.proofs.SameViews.{changes-part}
use Rattle.censored_view.proofs.laws.censored_part_law.Goals as goal

pub returns : goal.returns
returns c = changes-part
