use Rattle.std.proofs.Common.{List, get_or, None, IfOk, sym, subst}
use Rattle.doc_model.specs.declared.user.User.{User}
use Rattle.doc_model.specs.declared.user_action.UserAction.{UserAction}
use Rattle.doc_model.specs.Document.{Document}
use Rattle.bundle_core.specs.Core.{marked}
use Rattle.bundle_judge.specs.JudgedBundles.{IsJudgedBundle}
use Rattle.bundle_judge.specs.Judgement.{judge}
use Rattle.bundle_judge.specs.Rollback.{gone_back}
use Rattle.bundle_core.specs.Judged.{Asks}
use Rattle.bundle_core.specs.LastChange.{TellsChange}
use Rattle.bundle_core.specs.SessionState.{SessionState}
use Rattle.bundle_core.specs.State.{Holder}
use Rattle.bundle_core.specs.Turns.{IsTurn}
use Rattle.bundle_core.proofs.JudgedLemmas.{judged_bundle}
use Rattle.bundle_core.proofs.Prepared.{at_any}
use Rattle.bundle_core.proofs.dispatch.answer_bundle.Goals as goal

pub answer_judged-requires-clause-judged : goal.answer_judged-requires-clause-judged
answer_judged-requires-clause-judged g c =
    λ d. let s = g.D.DocReader.document c.doc.inside.doc in
    let t = gone_back g.D.DocTables.fits g.D.DocTables.undone c.in_ok-judged.trail.traces.items (g.D.DocReader.document c.judge_for.new.doc) in
    let b = c.in_ok-judged.judged in
    let P : List UserAction → Type 0 = λ l. IsJudgedBundle (judge c.user-user.result.now s l) None s b in
    let Q : User → Type 0 = λ u. IsJudgedBundle (judge u s c.args.actions.now) None s b in
    let X : SessionState → Type 0 = λ x. IsJudgedBundle (judge x.holder.user s c.args.actions.now) None s b in
    let T : Document → Type 0 = λ u. IsJudgedBundle (judge (get_or c.args.sessions.now.items c.args.index d).holder.user u c.args.actions.now) None u b in
    let at = at_any c.args.sessions.now.items c.args.index c.index.result.now d c.requires.finds.within c.index.ensures in
    let h : Holder = (get_or c.args.sessions.now.items c.args.index d).holder in
    let A : Document → Type 0 = λ u. Asks h u c.args.entry.now.request None (judge h.user u c.args.actions.now) in
    let asks = subst (λ k. A (g.D.DocReader.document k)) (sym c.doc.view_is) (c.requires.asks d) in
    judged_bundle h t c.args.entry.now.request c.args.actions.now b (subst A (sym c.in_ok-judged.ensures.back) asks)
    (subst T (sym c.in_ok-judged.ensures.back) (subst X (sym at) (subst Q c.user-user.ensures (subst P c.as_slice.ensures c.in_ok-judged.ensures.judged))))

pub returns-clause-ok : goal.returns-clause-ok
returns-clause-ok g c =
    let P : Document → Type 0 = λ s. IfOk c.answer_judged.result (λ t. IsTurn c.args.users.now s (g.D.DocReader.document c.answer_judged.new.doc) c.args.sessions.now.items c.answer_judged.new.sessions.items c.args.records.now c.answer_judged.new.records (marked c.args.entry.now t.kept) t.lines.items) in
    subst (λ d. P (g.D.DocReader.document d)) c.doc.view_is (subst P c.in_ok-judged.ensures.back c.answer_judged.ensures.ok)

pub returns-clause-change : goal.returns-clause-change
returns-clause-change g c =
    let P : Document → Type 0 = λ s. IfOk c.answer_judged.result (λ t. TellsChange s (g.D.DocReader.document c.answer_judged.new.doc) c.args.records.now c.answer_judged.new.records t.change) in
    subst (λ d. P (g.D.DocReader.document d)) c.doc.view_is (subst P c.in_ok-judged.ensures.back c.answer_judged.ensures.change)
