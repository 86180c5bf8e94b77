use Rattle.shot_tables.proofs.PutLemmas.{left_at, putting_next}
use Rattle.shot_tables.proofs.putting.put_each.Goals as goal

pub loop-action-preserved : goal.loop-action-preserved
loop-action-preserved g c =
    let l = c.loop-action in
    let x = c.action-item.result in
    let more = c.in_ok-put_one.ensures in
    putting_next g.D.DocTables.undone g.D.DocTables.fits (g.D.DocReader.document c.args.tables.now) c.args.actions.now c.args.backs.now.items l.action-index (g.D.DocReader.document l.tables) l.backs.items l.invariant
    x (g.D.DocReader.document c.put_one.new.tables) c.put_one.new.backs.items (left_at l.action-index c.args.actions.now x c.loop-action-test.true c.action-item.is) more.done more.whole more.led more.back
