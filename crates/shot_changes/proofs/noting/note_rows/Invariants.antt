use Rattle.std.proofs.Common.{◌-◌, length, take}
use Rattle.std.specs.List.{flat_map}
use Rattle.doc_readers.specs.Parts.{grid_at}
use Rattle.shot_changes.specs.NotedCells.{Adds, column_cells}
use Rattle.shot_changes.proofs.noting.note_rows.Given as goal

-- the cells of the columns so far
abbrev pub invariant-loop-column : goal.invariant-loop-column
invariant-loop-column g l =
    Adds (g.E.DocReader.document l.evaluated) (flat_map (column_cells l.table l.rows) (take l.index (grid_at (g.E.DocReader.document l.evaluated) l.table).columns))
    l.initial.changes l.changes

abbrev pub decreases-loop-column : goal.decreases-loop-column
decreases-loop-column g l = length (grid_at (g.E.DocReader.document l.evaluated) l.table).columns - l.index
