use Rattle.std.proofs.Common.{take}
use Rattle.std.specs.List.{flat_map}
use Rattle.shot_changes.specs.NotedCells.{Adds, lost_cell}
use Rattle.shot_changes.proofs.noting.note_lost.Given as goal

-- the cells so far
abbrev pub invariant-loop-cell : goal.invariant-loop-cell
invariant-loop-cell g l = Adds (g.E.DocReader.document l.evaluated) (flat_map (lost_cell (g.E.DocReader.document l.evaluated)) (take l.cell-index l.lost)) l.initial.changes l.changes
