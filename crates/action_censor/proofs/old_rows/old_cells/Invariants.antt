use Rattle.std.proofs.Common.{◌≡◌, ◌-◌, length, map, take}
use Rattle.doc_readers.specs.Parts.{grid_at}
use Rattle.action_censor.specs.ToldCells.{old_cell}
use Rattle.action_censor.proofs.old_rows.old_cells.Given as goal

-- the cells so far
abbrev pub invariant-loop-column : goal.invariant-loop-column
invariant-loop-column g l = l.cells ≡ map (old_cell l.told (grid_at (g.D.DocReader.document l.tables) l.table) l.row) (take l.index (grid_at (g.D.DocReader.document l.tables) l.table).columns)

abbrev pub decreases-loop-column : goal.decreases-loop-column
decreases-loop-column g l = length (grid_at (g.D.DocReader.document l.tables) l.table).columns - l.index
