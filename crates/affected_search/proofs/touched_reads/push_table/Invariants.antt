use Rattle.std.proofs.Common.{◌≡◌, ◌-◌, length, drop}
use Rattle.doc_readers.specs.Parts.{grid_at}
use Rattle.recalc.specs.Evaluated.{cells_of_columns}
use Rattle.affected_search.specs.TouchedReads.{with_cells}
use Rattle.affected_search.specs.Touches.{tells}
use Rattle.affected_search.proofs.touched_reads.push_table.Given as goal

-- the columns so far, and those that are to come
abbrev pub invariant-loop-column : goal.invariant-loop-column
invariant-loop-column g l =
    let grid = grid_at (g.R.DocReader.document l.tables) l.table in
    with_cells (tells l.touches) l.graph l.found (cells_of_columns l.table grid (drop l.index grid.columns))
    ≡ with_cells (tells l.touches) l.graph l.initial.found (cells_of_columns l.table grid grid.columns)

abbrev pub decreases-loop-column : goal.decreases-loop-column
decreases-loop-column g l = length (grid_at (g.R.DocReader.document l.tables) l.table).columns - l.index
