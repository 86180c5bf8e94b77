use Rattle.std.proofs.Common.{◌≡◌, ◌++◌, drop, map}
use Rattle.formula_eval.specs.Asked.{told_at, told_of}
use Rattle.formula_eval.proofs.reader.CellSource.cells.Given as goal

abbrev pub invariant-loop-row : goal.invariant-loop-row
invariant-loop-row g l =
    map told_of l.cells.items ++ map (told_at (g.Self.CellSource.told l.self) l.table l.column) (drop l.row-index l.rows)
    ≡ map (told_at (g.Self.CellSource.told l.self) l.table l.column) l.rows
