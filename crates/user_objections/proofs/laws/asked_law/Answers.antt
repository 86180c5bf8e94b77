use Rattle.user_objections.proofs.ObjectionLemmas.{objection_to-asked}
use Rattle.user_objections.proofs.laws.asked_law.Goals as goal

pub returns : goal.returns
returns c = objection_to-asked
