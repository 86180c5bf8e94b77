use Rattle.std.proofs.Common.{get_or, Some, IfOk, sym, subst}
use Rattle.doc_model.specs.Document.{Document}
use Rattle.undo_bundles.specs.BundleLog.{undo_of}
use Rattle.bundle_core.specs.Core.{marked}
use Rattle.bundle_judge.specs.JudgedBundles.{IsJudgedBundle}
use Rattle.bundle_core.specs.LastChange.{TellsChange}
use Rattle.bundle_core.specs.SessionState.{SessionState}
use Rattle.bundle_judge.specs.Rollback.{gone_back}
use Rattle.bundle_judge.specs.Undo.{judge_own_undo}
use Rattle.bundle_core.specs.Turns.{IsTurn}
use Rattle.bundle_core.proofs.JudgedLemmas.{judged_undo}
use Rattle.bundle_core.proofs.Prepared.{at_any}
use Rattle.bundle_core.proofs.dispatch.answer_undo.Goals as goal

pub answer_judged-requires-clause-judged : goal.answer_judged-requires-clause-judged
answer_judged-requires-clause-judged g c =
    λ d. let s = g.D.DocReader.document c.doc.inside.doc in
    let t = gone_back g.D.DocTables.fits g.D.DocTables.undone c.in_ok-judged.trail.traces.items (g.D.DocReader.document c.judge_undo_for.new.doc) in
    let b = c.in_ok-judged.judged in
    let n = c.args.number in
    let X : SessionState → Type 0 = λ x. IsJudgedBundle (judge_own_undo x.holder.user (undo_of x.holder.log n) s) (Some n) s b in
    let T : Document → Type 0 = λ u. IsJudgedBundle (judge_own_undo (get_or c.args.sessions.now.items c.args.index d).holder.user (undo_of (get_or c.args.sessions.now.items c.args.index d).holder.log n) u) (Some n) u b in
    let at = at_any c.args.sessions.now.items c.args.index c.index-session.result.now d c.requires.finds.within c.index-session.ensures in
    let own = subst (λ l. IsJudgedBundle (judge_own_undo c.index-session.result.now.holder.user (undo_of l n) s) (Some n) s b) c.log.ensures
    (subst (λ u. IsJudgedBundle (judge_own_undo u (undo_of c.log.result.now.log n) s) (Some n) s b) c.user.ensures c.in_ok-judged.ensures.judged) in
    judged_undo _ t c.args.entry.now.request n b c.requires.asks (subst T (sym c.in_ok-judged.ensures.back) (subst X (sym at) own))

pub returns-clause-ok : goal.returns-clause-ok
returns-clause-ok g c =
    let P : Document → Type 0 = λ s. IfOk c.answer_judged.result (λ t. IsTurn c.args.users.now s (g.D.DocReader.document c.answer_judged.new.doc) c.args.sessions.now.items c.answer_judged.new.sessions.items c.args.records.now c.answer_judged.new.records (marked c.args.entry.now t.kept) t.lines.items) in
    subst (λ d. P (g.D.DocReader.document d)) c.doc.view_is (subst P c.in_ok-judged.ensures.back c.answer_judged.ensures.ok)

pub returns-clause-change : goal.returns-clause-change
returns-clause-change g c =
    let P : Document → Type 0 = λ s. IfOk c.answer_judged.result (λ t. TellsChange s (g.D.DocReader.document c.answer_judged.new.doc) c.args.records.now c.answer_judged.new.records t.change) in
    subst (λ d. P (g.D.DocReader.document d)) c.doc.view_is (subst P c.in_ok-judged.ensures.back c.answer_judged.ensures.change)
