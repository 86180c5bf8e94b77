use Rattle.std.proofs.Common.{List, [], None, sym, subst, IfOk, arith}
use Rattle.std.proofs.lemmas.Result.{IfOk-weaker}
use Rattle.doc_model.specs.declared.action.Step.{Step}
use Rattle.doc_model.specs.Document.{Document}
use Rattle.evaluated_doc.specs.WayBack.{Changed}
use Rattle.bundle_judge.specs.JudgedBundles.{IsDoneBundle, IsJudgedBundle, IsToldBundle}
use Rattle.bundle_judge.specs.Judgement.{judge}
use Rattle.bundle_judge.proofs.JudgmentLemmas.{judged_few}
use Rattle.bundle_judge.proofs.ToldLemmas.{settled}
use Rattle.bundle_judge.proofs.judging.judge.Goals as goal

pub settle-requires-clause-told : goal.settle-requires-clause-told
settle-requires-clause-told g c =
    let s = g.D.DocReader.document c.args.doc.now in
    let t = g.D.DocReader.document c.judge_in-judged.new.doc in
    let trail = c.judge_in-judged.new.trail in
    let r = c.judge_in-judged.result in
    let S : Document → Type 0 = λ u. IfOk r (IsToldBundle u t [] trail.traces.items [] trail.inverse) in
    let O : List (Changed g.row.D-Back.Denot) → Type 0 = λ l. IfOk r (IsToldBundle s t l trail.traces.items c.new-trail.result.inverse trail.inverse) in
    let W : List Step → Type 0 = λ l. IfOk r (IsToldBundle s t [] trail.traces.items l trail.inverse) in
    subst S (sym c.judge_in-judged.ensures.back) (subst W c.new-trail.ensures.inverse (subst O c.new-trail.ensures.traces c.judge_in-judged.ensures.told))

pub returns-clause-judged : goal.returns-clause-judged
returns-clause-judged g c =
    let s = g.D.DocReader.document c.args.doc.now in
    let x = c.args.ctx.now in
    settled (IsJudgedBundle (judge x.user.user s c.args.requested.now) None s) c.judge_in-judged.result c.settle.result c.settle.ensures.judged (IfOk-weaker c.judge_in-judged.result _ _ (λ j k.
    judged_few x.user.user s c.args.requested.now x j (omega (arith, c.if-requested-gt-MAX_ACTIONS.false))
    c.requires.in_force k) c.judge_in-judged.ensures.judged)

pub returns-clause-done : goal.returns-clause-done
returns-clause-done g c =
    let t = g.D.DocReader.document c.settle.new.doc in
    let P : Document → Type 0 = λ u. IfOk c.settle.result (λ r. IsDoneBundle u t r.1.traces.items r.1.inverse r.0) in
    subst P c.judge_in-judged.ensures.back c.settle.ensures.done
