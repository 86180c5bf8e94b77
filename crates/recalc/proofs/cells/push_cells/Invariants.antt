use Rattle.std.proofs.Common.{◌≡◌, ◌++◌, drop}
use Rattle.doc_readers.specs.Parts.{grid_at}
use Rattle.recalc.specs.Lost.{cells_at}
use Rattle.recalc.proofs.cells.push_cells.Given as goal

abbrev pub invariant-loop-row : goal.invariant-loop-row
invariant-loop-row g l =
    l.cells.items ++ cells_at l.table (grid_at (g.R.DocReader.document l.doc) l.table) l.column (drop l.row-index l.rows)
    ≡ l.initial.cells.items ++ cells_at l.table (grid_at (g.R.DocReader.document l.doc) l.table) l.column l.rows
