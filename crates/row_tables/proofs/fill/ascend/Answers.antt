use Rattle.std.proofs.Common.{◌-◌, length, arith}
use Rattle.row_tables.proofs.Ascending.{few_ascend, one_next}
use Rattle.row_tables.proofs.fill.ascend.Goals as goal

pub loop-index-init : goal.loop-index-init
loop-index-init c = (omega (arith), few_ascend c.args.rows.now (length c.args.rows.now - 1) (omega (arith)))

pub loop-index-preserved : goal.loop-index-preserved
loop-index-preserved c =
    let i = c.loop-index.index in (
      omega (arith, c.loop-index.invariant.0),
      one_next c.args.rows.now (i - 1 - 1) (i - 1) (omega (arith, c.loop-index-test.true)) (omega (arith, c.loop-index-test.true, c.loop-index.invariant.0))
          (omega (arith, c.if-rows-index.false)) c.loop-index.invariant.1,
    )
