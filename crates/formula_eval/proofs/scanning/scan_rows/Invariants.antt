use Rattle.std.proofs.Common.{◌≡◌, ◌≤◌, drop, length, map}
use Rattle.formula_eval.specs.Lookup.{scan}
use Rattle.formula_eval.specs.Scanned.{IsScanned}
use Rattle.formula_eval.proofs.scanning.scan_rows.Given as goal

-- the rows from the index on are scanned
abbrev pub invariant-loop-index : goal.invariant-loop-index
invariant-loop-index g l =
    IsScanned l.found (scan (g.S.CellSource.told l.source) l.table l.keys (drop l.index l.rows))
    × (l.index ≤ length l.rows)
    × (l.types.items ≡ map (λ k. (g.S.CellSource.told l.source).kind l.table k.column) l.keys)

abbrev pub decreases-loop-index : goal.decreases-loop-index
decreases-loop-index g l = l.index
