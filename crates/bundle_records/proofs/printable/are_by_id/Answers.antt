use Rattle.std.proofs.Common.{◌∙◌, sym, arith}
use Rattle.bundle_records.proofs.PrintableLemmas.{by_id_ahead, by_id_end}
use Rattle.bundle_records.proofs.printable.are_by_id.Goals as goal

pub returns : goal.returns
returns c = sym (c.loop-index.invariant ∙ by_id_end c.args.columns.now c.loop-index.index (omega (arith, c.loop-index-test.false, c.loop-index.auto.index-end, c.saturating_sub-index-end.ensures)))
