use Rattle.std.proofs.Common.{◌≡◌, ◌++◌, map, drop}
use Rattle.par_recalc.specs.Numbers.{own_number}
use Rattle.par_recalc.proofs.numbers.own_numbers.Given as goal

abbrev pub invariant-loop-column : goal.invariant-loop-column
invariant-loop-column l = l.own.items ++ map (own_number l.numbers) (drop l.column-index l.formulas) ≡ map (own_number l.numbers) l.formulas
