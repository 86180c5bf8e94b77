use Rattle.view_refusals.proofs.AllowedViews.{allowed_shown}
use Rattle.view_refusals.proofs.laws.allowed_view_law.Goals as goal

pub returns : goal.returns
returns c = allowed_shown c.unopposed_law.ensures
