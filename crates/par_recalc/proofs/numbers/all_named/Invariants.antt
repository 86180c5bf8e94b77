use Rattle.std.proofs.Common.{◌≡◌, ◌++◌, map, drop}
use Rattle.par_recalc.specs.Numbers.{numbers_named}
use Rattle.par_recalc.proofs.numbers.all_named.Given as goal

abbrev pub invariant-loop-column : goal.invariant-loop-column
invariant-loop-column l = l.all.items ++ map (numbers_named l.numbers) (drop l.column-index l.formulas) ≡ map (numbers_named l.numbers) l.formulas
