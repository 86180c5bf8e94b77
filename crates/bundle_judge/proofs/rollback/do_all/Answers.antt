use Rattle.std.proofs.Common.{map, arith}
use Rattle.evaluated_doc.specs.WayBack.{IsWayBack}
use Rattle.user_actions.specs.StepLaws.{action_of}
use Rattle.bundle_judge.specs.Rollback.{led_back}
use Rattle.bundle_judge.proofs.RollbackLemmas.{doing_next, doing_valid}
use Rattle.bundle_judge.proofs.StepLemmas.{actions_left}
use Rattle.bundle_judge.proofs.ToldLemmas.{telling_ends, telling_next}
use Rattle.bundle_judge.proofs.rollback.do_all.Goals as goal

pub do_one-requires-clause-valid : goal.do_one-requires-clause-valid
do_one-requires-clause-valid g c =
    let l = c.loop-step in
    let x = c.step-item.result in
    doing_valid (led_back g.D.DocTables.fits g.D.DocTables.undone) (IsWayBack g.D.DocTables.fits g.D.DocTables.undone) (g.D.DocReader.document c.args.doc.now) (map action_of c.args.steps.now) c.args.trail.now.traces.items l.step-index (g.D.DocReader.document l.doc) l.trail.traces.items l.invariant.0
    x.action (actions_left l.step-index c.args.steps.now x c.loop-step-test.true c.step-item.is)

pub loop-step-preserved : goal.loop-step-preserved
loop-step-preserved g c =
    let l = c.loop-step in
    let start = g.D.DocReader.document c.args.doc.now in
    let s = g.D.DocReader.document l.doc in
    let t = g.D.DocReader.document c.do_one.new.doc in
    let x = c.step-item.result in
    let actions = map action_of c.args.steps.now in
    let more = c.in_ok-do_one.ensures in (
      doing_next (led_back g.D.DocTables.fits g.D.DocTables.undone) (IsWayBack g.D.DocTables.fits g.D.DocTables.undone) start actions c.args.trail.now.traces.items l.step-index s l.trail.traces.items l.invariant.0
          x.action t c.do_one.new.trail.traces.items (actions_left l.step-index c.args.steps.now x c.loop-step-test.true c.step-item.is) more.done more.led more.back,
      more.whole,
      telling_next start c.args.steps.now l.step-index s c.args.trail.now.traces.items l.trail.traces.items c.args.trail.now.inverse l.trail.inverse l.invariant.2
          x t c.do_one.new.trail.traces.items c.do_one.new.trail.inverse c.loop-step-test.true c.step-item.is more.done more.told,
    )

pub returns-clause-told : goal.returns-clause-told
returns-clause-told g c =
    let l = c.loop-step in
    telling_ends (g.D.DocReader.document c.args.doc.now) c.args.steps.now l.step-index (g.D.DocReader.document l.doc) c.args.trail.now.traces.items l.trail.traces.items c.args.trail.now.inverse l.trail.inverse l.invariant.2 (omega (arith, c.loop-step-test.false))
