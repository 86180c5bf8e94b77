use Rattle.std.proofs.Common.{List, [], Some, IfOk, sym, subst, ◌∙◌}
use Rattle.doc_model.specs.declared.action.Step.{Step}
use Rattle.doc_model.specs.Document.{Document}
use Rattle.evaluated_doc.specs.WayBack.{Changed}
use Rattle.acl_rules.specs.declared.decision.Ctx.{Ctx}
use Rattle.bundle_judge.specs.JudgedBundles.{IsDoneBundle, IsJudgedBundle, IsToldBundle}
use Rattle.bundle_judge.specs.Undo.{judge_undo}
use Rattle.bundle_judge.proofs.CarriedLemmas.{not_moved}
use Rattle.bundle_judge.proofs.ToldLemmas.{settled}
use Rattle.bundle_judge.proofs.undoing.judge_steps.Goals as goal

pub judge_each-judged-requires-clause-may_carry : goal.judge_each-judged-requires-clause-may_carry
judge_each-judged-requires-clause-may_carry g c = λ kept. sym c.rename_any.ensures ∙ not_moved _ (sym c.in_ok-carried.ensures.kept ∙ kept)

pub settle-requires-clause-told : goal.settle-requires-clause-told
settle-requires-clause-told g c =
    let s = g.D.DocReader.document c.args.doc.now in
    let t = g.D.DocReader.document c.judge_each-judged.new.doc in
    let trail = c.judge_each-judged.new.trail in
    let r = c.judge_each-judged.result in
    let S : Document → Type 0 = λ u. IfOk r (IsToldBundle u t [] trail.traces.items [] trail.inverse) in
    let O : List (Changed g.row.D-Back.Denot) → Type 0 = λ l. IfOk r (IsToldBundle s t l trail.traces.items c.new-trail.result.inverse trail.inverse) in
    let W : List Step → Type 0 = λ l. IfOk r (IsToldBundle s t [] trail.traces.items l trail.inverse) in
    subst S (sym c.judge_each-judged.ensures.back) (subst W c.new-trail.ensures.inverse (subst O c.new-trail.ensures.traces c.judge_each-judged.ensures.told))

pub returns-clause-done : goal.returns-clause-done
returns-clause-done g c =
    let t = g.D.DocReader.document c.settle.new.doc in
    let P : Document → Type 0 = λ u. IfOk c.settle.result (λ r. IsDoneBundle u t r.1.traces.items r.1.inverse r.0) in
    subst P c.judge_each-judged.ensures.back c.settle.ensures.done

pub returns-clause-judged : goal.returns-clause-judged
returns-clause-judged g c =
    let s = g.D.DocReader.document c.args.doc.now in
    let J : Ctx → Type 0 = λ x. IfOk c.judge_each-judged.result (IsJudgedBundle (judge_undo x s 0 c.as_slice-steps.result.now) (Some c.args.number) s) in
    let K : List Step → Type 0 = λ l. IfOk c.judge_each-judged.result (IsJudgedBundle (judge_undo c.args.ctx.now s 0 l) (Some c.args.number) s) in
    settled (IsJudgedBundle (judge_undo c.args.ctx.now s 0 c.args.steps.now) (Some c.args.number) s) c.judge_each-judged.result c.settle.result c.settle.ensures.judged
    (subst K c.as_slice-steps.ensures (subst J c.in_ok-carried.ensures.value c.judge_each-judged.ensures.judged))
