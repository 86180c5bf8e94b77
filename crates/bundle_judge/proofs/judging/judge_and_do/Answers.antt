use Rattle.std.proofs.Common.{◌≡◌, List, Some, false, sym, ap, subst, ◌∙◌}
use Rattle.std.specs.List.{list_any}
use Rattle.acl_rules.specs.declared.decision.Ctx.{Ctx}
use Rattle.doc_model.specs.declared.action.Step.{Step}
use Rattle.bundle_judge.specs.CarriedContexts.{carried_context, renames}
use Rattle.bundle_judge.specs.Denials.{denial_of}
use Rattle.bundle_judge.specs.JudgedActions.{AreLetDone, IsActionPlan}
use Rattle.bundle_judge.specs.Judgement.{opposed_at}
use Rattle.bundle_judge.specs.Losses.{AreTold}
use Rattle.bundle_judge.proofs.CarriedLemmas.{no_renames}
use Rattle.bundle_judge.proofs.JudgmentLemmas.{denied_refused, opposed_refused}
use Rattle.bundle_judge.proofs.judging.judge_and_do.Goals as goal

pub returns-in-Refused-clause-judged : goal.returns-in-Refused-clause-judged
returns-in-Refused-clause-judged g c =
    let s = g.D.DocReader.document c.args.doc.now in
    let v = c.in-Refused.verdict in
    let P : Ctx → Type 0 = λ x. opposed_at x s c.args.index c.args.action.now ≡ Some v in
    opposed_refused (carried_context c.args.carried.now) s c.args.index c.args.action.now v (subst P c.context.ensures (rw c.in-Refused.is at c.in_ok-verdict.ensures))

pub do_all_checked-requires-clause-may_carry : goal.do_all_checked-requires-clause-may_carry
do_all_checked-requires-clause-may_carry g c =
    let s = g.D.DocReader.document c.args.doc.now in
    let P : List Step → Type 0 = λ l. list_any renames l ≡ false in
    let plan : IsActionPlan c.context.result.now s c.args.index c.args.action.now c.in-Accepted.plan = rw c.in-Accepted.is at c.in_ok-verdict.ensures in
    λ kept. subst P (sym c.as_slice-steps.ensures) (subst P (sym plan.steps) (no_renames s c.args.action.now (c.requires.may_carry kept)))

pub returns-in-Ok-None-clause-judged : goal.returns-in-Ok-None-clause-judged
returns-in-Ok-None-clause-judged g c =
    let s = g.D.DocReader.document c.args.doc.now in
    let t = g.D.DocReader.document c.do_all_checked.new.doc in
    let P : List Step → Type 0 = λ l. AreLetDone (carried_context c.args.carried.now) s c.args.index l (carried_context c.do_all_checked.new.carried) t in
    let Q : Ctx → Type 0 = λ x. IsActionPlan x s c.args.index c.args.action.now c.in-Accepted.plan in
    record {
      plan = subst Q c.context.ensures (rw c.in-Accepted.is at c.in_ok-verdict.ensures);
      done = subst P c.as_slice-steps.ensures (rw c.in-Ok-None.field-0-is at c.in-Ok-None.ensures.ok);
    }

pub returns-in-Ok-Some-clause-judged : goal.returns-in-Ok-Some-clause-judged
returns-in-Ok-Some-clause-judged g c =
    let s = g.D.DocReader.document c.args.doc.now in
    let x = carried_context c.args.carried.now in
    let Q : Ctx → Type 0 = λ y. IsActionPlan y s c.args.index c.args.action.now c.in-Accepted.plan in
    let denied : denial_of x s c.args.index c.as_slice-steps.result.now ≡ Some c.in-Ok-Some.denial = rw c.in-Ok-Some.field-0-is at c.in-Ok-Some.ensures.ok in
    denied_refused x s c.args.index c.args.action.now c.in-Accepted.plan c.in-Ok-Some.denial (subst Q c.context.ensures (rw c.in-Accepted.is at c.in_ok-verdict.ensures))
    (ap (denial_of x s c.args.index) (sym c.as_slice-steps.ensures) ∙ denied)

pub returns-in-Ok-None-clause-told : goal.returns-in-Ok-None-clause-told
returns-in-Ok-None-clause-told g c =
    let s = g.D.DocReader.document c.args.doc.now in
    let P : List Step → Type 0 = λ l. AreTold s l c.args.trail.now.traces.items c.do_all_checked.new.trail.traces.items c.args.trail.now.inverse c.do_all_checked.new.trail.inverse in
    subst P c.as_slice-steps.ensures (c.in-Ok-None.ensures.told c.in-Ok-None.field-0-is)
