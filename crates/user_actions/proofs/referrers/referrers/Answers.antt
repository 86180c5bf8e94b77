use Rattle.user_actions.proofs.ReferrerLemmas.{table_more}
use Rattle.user_actions.proofs.referrers.referrers.Goals as goal

pub loop-id-preserved : goal.loop-id-preserved
loop-id-preserved g c =
    table_more (g.D.DocReader.document c.args.tables.now) c.args.old.now c.args.new.now c.args.retypes c.deref-id-items.result.now c.loop-id.id-index c.id-item.result c.loop-id-test.true c.id-item.is
    c.loop-id.found.items c.add_table.new.found.items _ c.in_ok-add_table.ensures c.loop-id.invariant
