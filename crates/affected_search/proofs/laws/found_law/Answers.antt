use Rattle.affected_search.proofs.SheetLaws.{found_law}
use Rattle.affected_search.proofs.laws.found_law.Goals as goal

pub returns : goal.returns
returns c = found_law
