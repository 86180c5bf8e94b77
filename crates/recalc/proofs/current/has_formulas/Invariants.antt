use Rattle.std.proofs.Common.{◌≡◌, ◌-◌, length, drop}
use Rattle.recalc.specs.Current.{has_formulas}
use Rattle.recalc.proofs.current.has_formulas.Given as goal

-- the rest decides
abbrev pub invariant-loop-table : goal.invariant-loop-table
invariant-loop-table g l = has_formulas (drop l.index (g.D.DocReader.document l.tables)) ≡ has_formulas (g.D.DocReader.document l.tables)

abbrev pub decreases-loop-table : goal.decreases-loop-table
decreases-loop-table g l = length (g.D.DocReader.document l.tables) - l.index
