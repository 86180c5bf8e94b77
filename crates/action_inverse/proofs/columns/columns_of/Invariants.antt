use Rattle.std.proofs.Common.{◌≡◌, ◌-◌, length, take}
use Rattle.doc_readers.specs.Parts.{grid_at}
use Rattle.action_inverse.proofs.columns.columns_of.Given as goal

-- the columns so far
abbrev pub invariant-loop-column : goal.invariant-loop-column
invariant-loop-column g l =
    l.columns.items ≡ take (length l.columns.items) (grid_at (g.D.DocReader.document l.tables) l.table).columns

abbrev pub decreases-loop-column : goal.decreases-loop-column
decreases-loop-column g l =
    length (grid_at (g.D.DocReader.document l.tables) l.table).columns - length l.columns.items
