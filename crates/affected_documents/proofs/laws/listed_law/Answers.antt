use Rattle.affected_documents.proofs.SetLemmas.{listed}
use Rattle.affected_documents.proofs.laws.listed_law.Goals as goal

pub returns : goal.returns
returns c = listed
