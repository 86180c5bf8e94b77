use Rattle.affected_search.proofs.TouchTests.{set_step}
use Rattle.affected_search.proofs.touch.set_of.Goals as goal

pub loop-row-preserved : goal.loop-row-preserved
loop-row-preserved c =
    let i = c.loop-row.row-index in
    set_step c.loop-row.set.keys c.insert.new.self.keys c.args.rows.now i c.loop-row-test.true c.loop-row.invariant c.in_ok-insert.ensures.updates.0
