use Rattle.doc_model.proofs.InverseLaws.{apply_all-inverse}
use Rattle.doc_model.proofs.laws.inverse_law.Goals as goal

pub returns : goal.returns
returns c = apply_all-inverse
