use Rattle.std.proofs.Common.{◌-◌, ◌<◌, get_or, refl, arith}
use Rattle.std.proofs.lemmas.Bool.{false≢true}
use Rattle.plain_view.proofs.RowIndexes.{ascending_from, below}
use Rattle.view_patch.proofs.rows.is_ascending.Goals as goal

pub returns-then-rows-index : goal.returns-then-rows-index
returns-then-rows-index c = (
  λ e. absurd (false≢true e),
  λ a. let b : get_or c.args.rows.now (c.loop-index.index - 1) 0 < get_or c.args.rows.now c.loop-index.index 0 = below c.args.rows.now a (c.loop-index.index - 1) c.loop-index.index (omega arith) (omega arith) in absurd (omega (arith, b)),
)

pub returns : goal.returns
returns c = (λ _. ascending_from c.args.rows.now (λ k lt. c.loop-index.invariant k (omega (arith, lt))), λ _. refl)
