use Rattle.std.proofs.Common.{◌∙◌}
use Rattle.user_objections.specs.ObjectionLaws.{asked}
use Rattle.view_refusals.proofs.RequestedLemmas.{objection_to-cut}
use Rattle.view_refusals.proofs.laws.requested_law.Goals as goal

pub returns : goal.returns
returns c = λ v a. objection_to-cut (asked a v) a ∙ c.asked_law.ensures v a
