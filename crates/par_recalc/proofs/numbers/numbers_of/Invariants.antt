use Rattle.std.proofs.Common.{◌≡◌, ◌++◌, drop}
use Rattle.par_recalc.specs.Numbers.{numbers_of}
use Rattle.par_recalc.proofs.numbers.numbers_of.Given as goal

abbrev pub invariant-loop-id : goal.invariant-loop-id
invariant-loop-id l = l.all ++ numbers_of l.numbers (drop l.id-index l.ids) ≡ numbers_of l.numbers l.ids
