use Rattle.std.proofs.Common.{◌≡◌, map, take}
use Rattle.formula_eval.specs.Asked.{told_of}
use Rattle.recalc.specs.Seen.{told_beside}
use Rattle.recalc.proofs.reading.kept_readings.Given as goal

abbrev pub invariant-loop-row : goal.invariant-loop-row
invariant-loop-row l = map told_of l.told.items ≡ map (told_beside l.rows l.held.values.items) (take l.row-index l.some)
