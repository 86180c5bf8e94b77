use Rattle.bundle_core.specs.State.{opening}
use Rattle.bundle_core.proofs.ToldLaws.{out-told}
use Rattle.bundle_core.proofs.laws.isolation_law.Goals as goal

pub returns : goal.returns
returns c = λ users s history name. out-told users (opening s) history name
