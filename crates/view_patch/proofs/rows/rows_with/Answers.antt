use Rattle.view_patch.proofs.Spots.{put_next}
use Rattle.view_patch.proofs.rows.rows_with.Goals as goal

pub loop-row-preserved : goal.loop-row-preserved
loop-row-preserved c = put_next c.args.new.now c.args.rows.items c.loop-row.all.items c.put_row.new.rows.items c.loop-row.row-index c.loop-row-test.true c.loop-row.invariant.0 c.loop-row.invariant.1 c.in_ok-put_row.ensures
