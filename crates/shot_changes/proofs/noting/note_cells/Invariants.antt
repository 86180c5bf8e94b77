use Rattle.std.proofs.Common.{◌∷◌, [], take}
use Rattle.std.specs.List.{flat_map}
use Rattle.recalc.specs.Cells.{cell_of}
use Rattle.shot_changes.specs.NotedCells.{Adds}
use Rattle.shot_changes.proofs.noting.note_cells.Given as goal

-- the cells so far
abbrev pub invariant-loop-row : goal.invariant-loop-row
invariant-loop-row g l = Adds (g.E.DocReader.document l.evaluated) (flat_map (λ r. cell_of l.table l.column r ∷ []) (take l.row-index l.rows)) l.initial.changes l.changes
