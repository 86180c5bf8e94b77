use Rattle.std.proofs.Common.{◌≡◌, None, map, take}
use Rattle.recalc.proofs.blank.blank_values.Given as goal

abbrev pub invariant-loop-row : goal.invariant-loop-row
invariant-loop-row l = l.values.items ≡ map (λ _. None) (take l._row-index l.rows)
