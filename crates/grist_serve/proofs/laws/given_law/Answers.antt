use Rattle.grist_serve.proofs.OutLemmas.{given-law}
use Rattle.grist_serve.proofs.laws.given_law.Goals as goal

pub returns : goal.returns
returns c = given-law
