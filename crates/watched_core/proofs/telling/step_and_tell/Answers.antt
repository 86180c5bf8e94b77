use Rattle.std.proofs.Common.{◌∙◌, sym}
use Rattle.watched_core.proofs.TellLemmas.{gone_told}
use Rattle.watched_core.proofs.telling.step_and_tell.Goals as goal

pub returns-then-is_gone-clause-told : goal.returns-then-is_gone-clause-told
returns-then-is_gone-clause-told g c =
    gone_told c.args.core.now c.step.new.self c.args.session.now c.args.request c.args.size c.args.watchers.now (sym c.is_gone.ensures ∙ c.if-is_gone.true) c.step.result c.step.ensures.ok
