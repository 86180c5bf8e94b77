use Rattle.renamed_values.proofs.ResolvedLemmas.{resolved_fit}
use Rattle.renamed_values.proofs.laws.resolved_law.Goals as goal

pub returns : goal.returns
returns c = resolved_fit
