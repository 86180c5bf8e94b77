use Rattle.std.proofs.Common.{◌≡◌, ◌++◌, drop}
use Rattle.par_recalc.specs.Rounds.{blank}
use Rattle.par_recalc.proofs.leveling.blank.Given as goal

abbrev pub invariant-loop-column : goal.invariant-loop-column
invariant-loop-column l = l.marks.items ++ blank (drop l._column-index l.formulas) ≡ blank l.formulas
