use Rattle.affected_documents.proofs.SetLemmas.{least_set}
use Rattle.affected_documents.proofs.laws.least_set_law.Goals as goal

pub returns : goal.returns
returns c = least_set
