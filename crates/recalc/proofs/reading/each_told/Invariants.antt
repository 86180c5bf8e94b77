use Rattle.std.proofs.Common.{◌≡◌, map, take}
use Rattle.formula_eval.specs.Asked.{told_at, told_of}
use Rattle.recalc.specs.Evaluated.{sheet_of}
use Rattle.recalc.specs.Kept.{held_at}
use Rattle.recalc.specs.Sheet.{over}
use Rattle.recalc.proofs.reading.each_told.Given as goal

abbrev pub invariant-loop-row : goal.invariant-loop-row
invariant-loop-row g l =
    map told_of l.told.items
    ≡ map (told_at (over (sheet_of (g.D.DocReader.document l.tables)) (held_at (g.D.DocReader.document l.tables) l.kept)) l.table l.column) (take l.row-index l.rows)
