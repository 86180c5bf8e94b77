use Rattle.renamed_values.proofs.SameEvLemmas.{same_ev}
use Rattle.renamed_values.proofs.laws.same_ev_law.Goals as goal

pub returns : goal.returns
returns c = same_ev
