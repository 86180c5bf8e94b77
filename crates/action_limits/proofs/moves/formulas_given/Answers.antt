use Rattle.std.proofs.Common.{sym, arith}
use Rattle.doc_model.specs.Counts.{formula_bytes}
use Rattle.action_limits.proofs.SumLemmas.{capped_step}
use Rattle.action_limits.proofs.moves.formulas_given.Goals as goal

pub loop-column-preserved : goal.loop-column-preserved
loop-column-preserved c =
    capped_step formula_bytes c.args.columns.now c.loop-column.column-index c.column-item.result c.column-item.result c.loop-column.weight c.saturating_add-weight.result c.len.result
    c.loop-column-test.true (sym c.column-item.is) c.loop-column.invariant (grind arith) c.saturating_add-weight.ensures
