use Rattle.doc_model.proofs.SchemaCounts.{counts-apply}
use Rattle.doc_model.proofs.laws.counts_law.Goals as goal

pub returns : goal.returns
returns c = counts-apply
