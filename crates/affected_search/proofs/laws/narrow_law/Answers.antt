use Rattle.affected_search.proofs.NarrowLaws.{narrow_law}
use Rattle.affected_search.proofs.laws.narrow_law.Goals as goal

pub returns : goal.returns
returns c = narrow_law
