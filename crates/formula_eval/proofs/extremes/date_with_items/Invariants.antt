use Rattle.std.proofs.Common.{◌≡◌, drop}
use Rattle.formula_eval.specs.Function.{better, item_dates}
use Rattle.formula_eval.proofs.extremes.date_with_items.Given as goal

abbrev pub invariant-loop-item : goal.invariant-loop-item
invariant-loop-item l = better l.most l.best (item_dates (drop l.item-index l.items)) ≡ better l.most l.fn.best (item_dates l.items)
