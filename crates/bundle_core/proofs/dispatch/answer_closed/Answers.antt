use Rattle.std.proofs.Common.{◌∷◌, [], ap, ◌∙◌}
use Rattle.std.proofs.lemmas.Result.{IfOk-weaker}
use Rattle.bundle_core.specs.Replies.{reply_of}
use Rattle.bundle_core.specs.State.{refusal}
use Rattle.bundle_core.proofs.ClosedLemmas.{answers_by, miss_refused}
use Rattle.bundle_core.proofs.dispatch.answer_closed.Goals as goal

pub returns-in_default-clause-ok : goal.returns-in_default-clause-ok
returns-in_default-clause-ok g c =
    IfOk-weaker c.reply_alone.result _ _ (λ v p. answers_by _ _ _ _ _ _ _ _ (p ∙ ap (λ x. reply_of x ∷ []) (c.refused.ensures ∙ ap refusal c.refusal_closed.ensures))
    (miss_refused c.args.users.now (g.D.DocReader.document c.args.doc.now) c.args.sessions.now.items c.args.index c.args.entry.now c.requires.misses c.requires.stays (λ t is. c.in_default.not-Open t is))) c.reply_alone.ensures
