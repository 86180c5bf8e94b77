use Rattle.std.proofs.Common.{◌≤◌, map, length, sym, ◌∙◌, arith}
use Rattle.evaluated_doc.specs.WayBack.{IsWayBack}
use Rattle.doc_model.proofs.Choices.{length_map}
use Rattle.user_actions.specs.StepLaws.{action_of}
use Rattle.bundle_judge.specs.CarriedContexts.{carried_context, renames}
use Rattle.bundle_judge.specs.Rollback.{led_back}
use Rattle.bundle_judge.proofs.CarriedLemmas.{none_at}
use Rattle.bundle_judge.proofs.CheckLemmas.{checking_carried, checking_denied, checking_next, checking_undenied}
use Rattle.bundle_judge.proofs.RollbackLemmas.{doing_ends, doing_next, doing_valid, left_at}
use Rattle.bundle_judge.proofs.StepLemmas.{actions_left}
use Rattle.bundle_judge.proofs.ToldLemmas.{telling_ends, telling_next}
use Rattle.bundle_judge.proofs.checking.do_all_checked.Goals as goal

pub do_checked-requires-clause-valid : goal.do_checked-requires-clause-valid
do_checked-requires-clause-valid g c =
    let l = c.loop-step in
    let x = c.step-item.result in
    doing_valid (led_back g.D.DocTables.fits g.D.DocTables.undone) (IsWayBack g.D.DocTables.fits g.D.DocTables.undone) (g.D.DocReader.document c.args.doc.now) (map action_of c.args.steps.now) c.args.trail.now.traces.items l.step-index (g.D.DocReader.document l.doc) l.trail.traces.items l.invariant.0
    x.action (actions_left l.step-index c.args.steps.now x c.loop-step-test.true c.step-item.is)

pub do_checked-requires-clause-may_carry : goal.do_checked-requires-clause-may_carry
do_checked-requires-clause-may_carry g c =
    let l = c.loop-step in
    λ kept. none_at renames c.args.steps.now l.step-index c.step-item.result (c.requires.may_carry (sym l.invariant.3 ∙ kept)) c.loop-step-test.true c.step-item.is

pub returns-in-Some-clause-ok : goal.returns-in-Some-clause-ok
returns-in-Some-clause-ok g c =
    let l = c.loop-step in
    let x = c.step-item.result in
    checking_denied (carried_context c.args.carried.now) (g.D.DocReader.document c.args.doc.now) c.args.index c.args.steps.now l.step-index (carried_context l.carried) (g.D.DocReader.document l.doc) l.invariant.2
    x c.in-Some.denial (left_at l.step-index c.args.steps.now x c.loop-step-test.true c.step-item.is) (sym c.in-Some.is ∙ c.in_ok-denial.ensures.denied)

pub loop-step-preserved : goal.loop-step-preserved
loop-step-preserved g c =
    let l = c.loop-step in
    let start = g.D.DocReader.document c.args.doc.now in
    let s = g.D.DocReader.document l.doc in
    let t = g.D.DocReader.document c.do_checked.new.doc in
    let x = c.step-item.result in
    let actions = map action_of c.args.steps.now in
    let more = c.in_ok-denial.ensures in (
      doing_next (led_back g.D.DocTables.fits g.D.DocTables.undone) (IsWayBack g.D.DocTables.fits g.D.DocTables.undone) start actions c.args.trail.now.traces.items l.step-index s l.trail.traces.items l.invariant.0
          x.action t c.do_checked.new.trail.traces.items (actions_left l.step-index c.args.steps.now x c.loop-step-test.true c.step-item.is) more.done more.led more.back,
      more.whole,
      checking_next (carried_context c.args.carried.now) start c.args.index c.args.steps.now l.step-index (carried_context l.carried) s l.invariant.2 x (carried_context c.do_checked.new.carried) t
          (left_at l.step-index c.args.steps.now x c.loop-step-test.true c.step-item.is) (sym c.in-None.is ∙ more.denied) more.carried more.done,
      more.kept ∙ l.invariant.3,
      telling_next start c.args.steps.now l.step-index s c.args.trail.now.traces.items l.trail.traces.items c.args.trail.now.inverse l.trail.inverse l.invariant.4
          x t c.do_checked.new.trail.traces.items c.do_checked.new.trail.inverse c.loop-step-test.true c.step-item.is more.done more.told,
    )

pub returns-clause-ok : goal.returns-clause-ok
returns-clause-ok g c =
    let l = c.loop-step in
    let start = g.D.DocReader.document c.args.doc.now in
    let s = g.D.DocReader.document l.doc in
    let le : length c.args.steps.now ≤ l.step-index = omega (arith, c.loop-step-test.false) in
    record {
      undenied = checking_undenied (carried_context c.args.carried.now) start c.args.index c.args.steps.now l.step-index (carried_context l.carried) s l.invariant.2 le;
      carried = checking_carried (carried_context c.args.carried.now) start c.args.index c.args.steps.now l.step-index (carried_context l.carried) s l.invariant.2 le;
      done = doing_ends (led_back g.D.DocTables.fits g.D.DocTables.undone) (IsWayBack g.D.DocTables.fits g.D.DocTables.undone) start (map action_of c.args.steps.now) c.args.trail.now.traces.items l.step-index s l.trail.traces.items l.invariant.0
          (omega (arith, le, length_map action_of c.args.steps.now));
    }

pub returns-clause-told : goal.returns-clause-told
returns-clause-told g c =
    λ _. let l = c.loop-step in
    telling_ends (g.D.DocReader.document c.args.doc.now) c.args.steps.now l.step-index (g.D.DocReader.document l.doc) c.args.trail.now.traces.items l.trail.traces.items c.args.trail.now.inverse l.trail.inverse l.invariant.4 (omega (arith, c.loop-step-test.false))
