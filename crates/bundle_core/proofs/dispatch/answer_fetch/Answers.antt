use Rattle.std.proofs.Common.{true, get_or, sym, ap, ◌∙◌}
use Rattle.std.proofs.lemmas.Result.{IfOk-weaker}
use Rattle.doc_model.specs.declared.request.Request.TheVariants.{Fetch}
use Rattle.doc_model.specs.declared.user.User.{User}
use Rattle.bundle_core.specs.Dispatch.{state_of}
use Rattle.bundle_core.specs.Mailbox.{asked_table, replies}
use Rattle.bundle_core.specs.SessionState.{SessionState}
use Rattle.bundle_core.specs.State.{fetched, from_open, shown_if_any}
use Rattle.rule_contexts.specs.Context.{view}
use Rattle.bundle_core.proofs.OpenLemmas.{comes_open, find_staying}
use Rattle.bundle_core.proofs.dispatch.answer_fetch.Goals as goal

pub returns-clause-ok : goal.returns-clause-ok
returns-clause-ok g c =
    let s = g.D.DocReader.document c.args.doc.now in
    let users = c.args.users.now in
    let xs = c.args.sessions.now.items in
    let e = c.args.entry.now in
    let table = c.args.table.now in
    let d = c.index.result.now in
    let h = (get_or xs c.args.index d).holder in
    let own : User = h.user in
    let asked = ap (λ u. replies (Fetch table) (shown_if_any (asked_table table (view u s))) (view u s)) (sym (c.user.ensures ∙ ap (λ (x : SessionState). x.holder.user) c.index.ensures)) ∙ c.in_ok-reply.ensures in
    let says_so = ap (λ r. replies r (shown_if_any (asked_table table (view own s))) (view own s)) c.requires.asks ∙ asked in
    let comes = comes_open users s xs c.args.index e c.requires.finds d (fetched s h table) (c.requires.quick d)
    (λ z. ap (λ k. from_open (state_of s z) h k e.request) c.requires.kept ∙ ap (from_open (state_of s z) h true) c.requires.asks) in
    IfOk-weaker c.give.result _ _ (λ v stays. find_staying users s xs c.args.index e c.requires.finds d (shown_if_any (asked_table table (view own s))) c.in_ok-reply.reply c.give.new.sessions.items v.items c.requires.whole comes says_so stays) c.give.ensures.ok
