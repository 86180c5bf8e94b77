use Rattle.std.proofs.Common.{◌∷◌, [], ap, sym, ◌∙◌}
use Rattle.std.proofs.lemmas.Result.{IfOk-weaker}
use Rattle.bundle_core.specs.Replies.{reply_of}
use Rattle.bundle_core.proofs.ClosedLemmas.{answers_by, miss_unknown}
use Rattle.bundle_core.proofs.dispatch.open.Goals as goal

pub returns-in-None-clause-ok : goal.returns-in-None-clause-ok
returns-in-None-clause-ok g c =
    IfOk-weaker c.reply_alone.result _ _ (λ v p. answers_by _ _ _ _ _ _ _ _ (p ∙ ap (λ x. reply_of x ∷ []) c.refused.ensures)
    (miss_unknown c.args.users.now (g.D.DocReader.document c.args.doc.now) c.args.sessions.now.items c.args.index c.args.entry.now c.requires.misses c.args.token.now c.requires.asks (sym c.in-None.ensures))) c.reply_alone.ensures

pub open_for-requires-clause-known : goal.open_for-requires-clause-known
open_for-requires-clause-known g c = sym c.in-Some.ensures
