use Rattle.std.proofs.Common.{◌∙◌, sym}
use Rattle.acl_checks.specs.BeforeStep.{Holds}
use Rattle.acl_checks.proofs.after.after_step.Goals as goal

pub returns : goal.returns
unfolding Holds
returns g c = λ s h. c.answer_behind.ensures ∙ sym (h (g.D.DocReader.document c.args.tables.now))
