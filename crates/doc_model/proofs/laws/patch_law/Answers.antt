use Rattle.doc_model.proofs.ChangesLaws.{patch-changes}
use Rattle.doc_model.proofs.laws.patch_law.Goals as goal

pub returns : goal.returns
returns c = patch-changes
