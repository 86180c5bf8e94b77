use Rattle.std.proofs.Common.{nat_cmp}
use Rattle.std.specs.BTreeSet.{contains_by}
use Rattle.user_actions.proofs.GoneLemmas.{gone_more}
use Rattle.user_actions.proofs.gone_rows.GoneRows.new.Goals as goal

pub loop-row-preserved : goal.loop-row-preserved
loop-row-preserved c q =
    gone_more c.as_slice-row-items.result.now c.loop-row.row-index q c.loop-row-test.true (contains_by (nat_cmp q) c.loop-row.sorted) (contains_by (nat_cmp q) c.insert.new.self)
    (c.in_ok-insert.ensures.updates.0 q) (c.loop-row.invariant q)
