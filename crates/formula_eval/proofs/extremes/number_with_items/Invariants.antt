use Rattle.std.proofs.Common.{◌≡◌, drop}
use Rattle.formula_eval.specs.Function.{better, item_numbers}
use Rattle.formula_eval.proofs.extremes.number_with_items.Given as goal

abbrev pub invariant-loop-item : goal.invariant-loop-item
invariant-loop-item l = better l.most l.best (item_numbers (drop l.item-index l.items)) ≡ better l.most l.fn.best (item_numbers l.items)
