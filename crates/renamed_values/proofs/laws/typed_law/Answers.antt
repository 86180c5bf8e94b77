use Rattle.renamed_values.proofs.TypedLemmas.{typed_so}
use Rattle.renamed_values.proofs.laws.typed_law.Goals as goal

pub returns : goal.returns
returns c = typed_so
