use Rattle.renamed_values.proofs.RecordLemmas.{records_held}
use Rattle.renamed_values.proofs.laws.records_law.Goals as goal

pub returns : goal.returns
returns c = records_held
