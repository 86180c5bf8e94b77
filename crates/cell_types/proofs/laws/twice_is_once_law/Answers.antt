use Rattle.cell_types.proofs.TwiceLemmas.{twice_is_once}
use Rattle.cell_types.proofs.laws.twice_is_once_law.Goals as goal

pub returns : goal.returns
returns c = twice_is_once
