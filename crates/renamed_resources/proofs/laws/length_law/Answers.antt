use Rattle.renamed_resources.proofs.LengthLemmas.{short-joined}
use Rattle.renamed_resources.proofs.laws.length_law.Goals as goal

pub returns : goal.returns
returns c = short-joined
