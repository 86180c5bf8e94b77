use Rattle.std.proofs.Common.{◌≡◌, true, false, nat_le, length, List, ◌∷◌, [], ap, sym, subst, ◌∙◌, arith}
use Rattle.std.proofs.lemmas.Bool.{le-leb, lt-leb}
use Rattle.std.proofs.lemmas.Result.{IfOk-weaker}
use Rattle.std.specs.List.{insert}
use Rattle.doc_model.specs.declared.verdict.Verdict.TheVariants.{Changes}
use Rattle.grist_json.specs.Lines.{reply_text}
use Rattle.undo_bundles.specs.BundleLog.{empty_log}
use Rattle.bundle_core.specs.Replies.{reply_of}
use Rattle.bundle_core.specs.Dispatch.{Answers}
use Rattle.rule_contexts.specs.Context.{view}
use Rattle.doc_model.specs.Changes.{changes}
use Rattle.bundle_core.specs.SessionState.{SessionState}
use Rattle.bundle_core.specs.State.{session_bound}
use Rattle.bundle_core.proofs.Answering.{open_of-fields, holder_of-fields}
use Rattle.bundle_core.proofs.ClosedLemmas.{answers_by, miss_full, miss_opened}
use Rattle.bundle_core.proofs.dispatch.open_for.Goals as goal

pub returns-then-len-clause-ok : goal.returns-then-len-clause-ok
returns-then-len-clause-ok g c =
    let full : nat_le session_bound (length c.args.sessions.now.items) ≡ true = le-leb _ _ (omega (arith, c.len.ensures, c.if-len.true)) in
    IfOk-weaker c.reply_alone.result _ _ (λ v p. answers_by _ _ _ _ _ _ _ _ (p ∙ ap (λ x. reply_of x ∷ []) c.too_many.ensures)
    (miss_full c.args.users.now (g.D.DocReader.document c.args.doc.now) c.args.sessions.now.items c.args.index c.args.entry.now c.requires.misses c.args.token.now c.args.user.now c.requires.asks c.requires.known full)) c.reply_alone.ensures

pub returns-clause-ok : goal.returns-clause-ok
returns-clause-ok g c =
    let free : nat_le session_bound (length c.args.sessions.now.items) ≡ false = lt-leb _ _ (omega (arith, c.len.ensures, c.if-len.false)) in
    let xs = c.args.sessions.now.items in
    let s = g.D.DocReader.document c.args.doc.now in
    let x = c.in_ok-session.session in
    let opened = c.in_ok-session.ensures in
    let stands : c.put_back.new.sessions.items ≡ insert xs c.args.index x = c.put_back.ensures ∙ ap (λ l. insert l c.args.index x) c.in_ok-reserve.ensures.items in
    let fields = open_of-fields s x c.args.entry.now.session (record { user = c.args.user.now; log = empty_log }) 0 [] false
    opened.session (holder_of-fields x.holder c.args.user.now empty_log opened.user opened.log) opened.made opened.waiting opened.lagging in
    let Q : List SessionState → Type 0 = λ ys. Answers c.args.users.now s s xs ys c.args.entry.now (reply_text (Changes (changes [] (view c.args.user.now s))) ∷ []) in
    answers_by _ _ _ _ _ _ _ _ c.in_ok-lines.ensures (subst Q (sym stands)
    (miss_opened c.args.users.now s xs c.args.index c.args.entry.now c.requires.misses c.args.token.now c.args.user.now x c.requires.asks c.requires.known free fields))
