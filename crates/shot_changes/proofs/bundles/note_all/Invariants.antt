use Rattle.std.proofs.Common.{◌-◌, length, map, take}
use Rattle.std.specs.List.{flat_map}
use Rattle.doc_model.specs.Document.{table_id}
use Rattle.shot_changes.specs.NotedCells.{Adds, table_cells}
use Rattle.shot_changes.proofs.bundles.note_all.Given as goal

-- the cells of the tables so far
abbrev pub invariant-loop-table : goal.invariant-loop-table
invariant-loop-table g l =
    Adds (g.E.DocReader.document l.evaluated) (flat_map (table_cells (g.E.DocReader.document l.evaluated)) (take l.index (map table_id (g.E.DocReader.document l.evaluated))))
    l.initial.changes l.changes

abbrev pub decreases-loop-table : goal.decreases-loop-table
decreases-loop-table g l = length (map table_id (g.E.DocReader.document l.evaluated)) - l.index
