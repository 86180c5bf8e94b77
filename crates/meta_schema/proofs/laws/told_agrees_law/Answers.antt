use Rattle.meta_schema.proofs.AsTold.{agrees-as_told}
use Rattle.meta_schema.proofs.laws.told_agrees_law.Goals as goal

pub returns : goal.returns
returns c = agrees-as_told
