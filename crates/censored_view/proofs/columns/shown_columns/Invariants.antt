use Rattle.std.proofs.Common.{◌≡◌, ◌-◌, length, take}
use Rattle.doc_readers.specs.Parts.{grid_at}
use Rattle.censored_view.specs.View.{shown_columns}
use Rattle.censored_view.proofs.columns.shown_columns.Given as goal

-- the columns so far, in their places
abbrev pub invariant-loop-column : goal.invariant-loop-column
invariant-loop-column g l = l.shown.items ≡ shown_columns (g.X.Lets.lets l.ctx l.table) (take l.index (grid_at (g.D.DocReader.document l.tables) l.table).columns)

abbrev pub decreases-loop-column : goal.decreases-loop-column
decreases-loop-column g l = length (grid_at (g.D.DocReader.document l.tables) l.table).columns - l.index
