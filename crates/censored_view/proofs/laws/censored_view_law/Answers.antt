use Rattle.censored_view.proofs.ViewLemmas.{IsView-view}
use Rattle.censored_view.proofs.laws.censored_view_law.Goals as goal

pub returns : goal.returns
returns c = IsView-view
