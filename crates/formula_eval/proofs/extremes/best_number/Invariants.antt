use Rattle.std.proofs.Common.{◌≡◌, drop, None}
use Rattle.formula_eval.specs.Function.{better, numbers_in}
use Rattle.formula_eval.proofs.extremes.best_number.Given as goal

abbrev pub invariant-loop-value : goal.invariant-loop-value
invariant-loop-value l = better l.most l.best (numbers_in (drop l.value-index l.values)) ≡ better l.most None (numbers_in l.values)
