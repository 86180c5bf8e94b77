use Rattle.affected_search.proofs.WithinLaws.{within_law}
use Rattle.affected_search.proofs.laws.within_law.Goals as goal

pub returns : goal.returns
returns c = within_law
