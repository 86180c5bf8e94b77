use Rattle.std.proofs.Common.{◌≡◌, ◌++◌, ◌≤◌, length, map, reverse, take}
use Rattle.recalc.specs.Cells.{cell_of}
use Rattle.affected_values.proofs.row_cells.push_column_cells.Given as goal

abbrev pub invariant-loop-index : goal.invariant-loop-index
invariant-loop-index l =
    (l.cells.items ++ map (cell_of l.table l.column) (reverse (take l.index l.rows)) ≡ l.initial.cells.items ++ map (cell_of l.table l.column) (reverse l.rows))
    × (l.index ≤ length l.rows)

abbrev pub decreases-loop-index : goal.decreases-loop-index
decreases-loop-index l = l.index
