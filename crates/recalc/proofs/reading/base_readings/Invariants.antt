use Rattle.std.proofs.Common.{◌≡◌, map, take}
use Rattle.std.specs.Option.{option_copied}
use Rattle.formula_eval.specs.Asked.{told_of}
use Rattle.recalc.specs.Seen.{told_or_no_row}
use Rattle.recalc.proofs.reading.base_readings.Given as goal

abbrev pub invariant-loop-cell : goal.invariant-loop-cell
invariant-loop-cell l = map told_of l.told.items ≡ map (λ cell. told_or_no_row (option_copied cell)) (take l.cell-index l.cells)
