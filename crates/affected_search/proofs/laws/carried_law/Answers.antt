use Rattle.affected_search.proofs.UpkeepLaws.{carried_law}
use Rattle.affected_search.proofs.laws.carried_law.Goals as goal

pub returns : goal.returns
returns c = carried_law
