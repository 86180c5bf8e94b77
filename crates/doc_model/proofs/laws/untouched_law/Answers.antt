use Rattle.doc_model.proofs.UntouchedRows.{untouched}
use Rattle.doc_model.proofs.laws.untouched_law.Goals as goal

pub returns : goal.returns
returns c = untouched
