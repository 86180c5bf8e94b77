use Rattle.std.proofs.Common.{◌∙◌, sym}
use Rattle.web_edges.proofs.AnswerLemmas.{page-from-here, socket-from-here}
use Rattle.web_edges.proofs.handshake.sent_for.Goals as goal

pub returns-in-Ok : goal.returns-in-Ok
returns-in-Ok c granted = socket-from-here _ _ (sym c.answer_to.ensures ∙ c.in-Socket-Some.is-0)

pub returns-in-Page-default : goal.returns-in-Page-default
returns-in-Page-default c granted = page-from-here _ _ (sym c.answer_to.ensures ∙ c.in-Page-default.is-0)
