use Rattle.std.proofs.Common.{◌≡◌, drop, map}
use Rattle.recalc.specs.Cells.{cell_of}
use Rattle.affected_search.specs.TouchedReads.{with_cells}
use Rattle.affected_search.specs.Touches.{tells}
use Rattle.affected_search.proofs.touched_reads.push_column.Given as goal

-- the cells so far, and those that are to come
abbrev pub invariant-loop-row : goal.invariant-loop-row
invariant-loop-row g l =
    with_cells (tells l.touches) l.graph l.found (map (cell_of l.table l.fn.column.id) (drop l.row-index l.row-items))
    ≡ with_cells (tells l.touches) l.graph l.initial.found (map (cell_of l.table l.fn.column.id) l.row-items)
