use Rattle.audited_records.proofs.ActionLemmas.{records_same}
use Rattle.audited_records.proofs.laws.records_law.Goals as goal

pub returns : goal.returns
returns c = records_same c.seen_law.ensures.allowed
