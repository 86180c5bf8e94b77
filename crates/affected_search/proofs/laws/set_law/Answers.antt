use Rattle.affected_search.proofs.UpkeepLaws.{set_law}
use Rattle.affected_search.proofs.laws.set_law.Goals as goal

pub returns : goal.returns
returns c = set_law
