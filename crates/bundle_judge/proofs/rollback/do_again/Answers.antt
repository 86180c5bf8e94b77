use Rattle.evaluated_doc.specs.WayBack.{IsWayBack}
use Rattle.bundle_judge.specs.Rollback.{led_back}
use Rattle.bundle_judge.proofs.RollbackLemmas.{doing_next, doing_valid, left_at}
use Rattle.bundle_judge.proofs.rollback.do_again.Goals as goal

pub put_one-requires-clause-valid : goal.put_one-requires-clause-valid
put_one-requires-clause-valid g c =
    let l = c.loop-action in
    let x = c.action-item.result in
    doing_valid (led_back g.D.DocTables.fits g.D.DocTables.undone) (IsWayBack g.D.DocTables.fits g.D.DocTables.undone) (g.D.DocReader.document c.args.doc.now) c.args.actions.now c.args.traces.now.items l.action-index (g.D.DocReader.document l.doc) l.traces.items l.invariant
    x (left_at l.action-index c.args.actions.now x c.loop-action-test.true c.action-item.is)

pub loop-action-preserved : goal.loop-action-preserved
loop-action-preserved g c =
    let l = c.loop-action in
    let x = c.action-item.result in
    let more = c.in_ok-put_one.ensures in
    doing_next (led_back g.D.DocTables.fits g.D.DocTables.undone) (IsWayBack g.D.DocTables.fits g.D.DocTables.undone) (g.D.DocReader.document c.args.doc.now) c.args.actions.now c.args.traces.now.items l.action-index (g.D.DocReader.document l.doc) l.traces.items l.invariant
    x (g.D.DocReader.document c.put_one.new.doc) c.put_one.new.traces.items (left_at l.action-index c.args.actions.now x c.loop-action-test.true c.action-item.is) more.done more.led more.back
