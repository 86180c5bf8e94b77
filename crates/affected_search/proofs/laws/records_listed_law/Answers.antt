use Rattle.affected_search.proofs.RecordsListed.{records_listed_law}
use Rattle.affected_search.proofs.laws.records_listed_law.Goals as goal

pub returns : goal.returns
returns c = records_listed_law
