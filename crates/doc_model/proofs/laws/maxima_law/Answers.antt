use Rattle.doc_model.proofs.SchemaMaxima.{maxima-apply}
use Rattle.doc_model.proofs.laws.maxima_law.Goals as goal

pub returns : goal.returns
returns c = maxima-apply
