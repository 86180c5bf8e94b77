use Rattle.doc_model.proofs.InverseLaws.{IsWhole-apply}
use Rattle.doc_model.proofs.laws.kept_law.Goals as goal

pub returns : goal.returns
returns c = IsWhole-apply
