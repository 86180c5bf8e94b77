use Rattle.std.proofs.Common.{◌≡◌, ◌-◌, length, drop}
use Rattle.doc_readers.specs.Parts.{grid_at}
use Rattle.doc_model.specs.ByIds.{find_id}
use Rattle.doc_model.specs.Column.{column_id}
use Rattle.user_actions.proofs.table_readers.column_named.Given as goal

-- the rest decides
abbrev pub invariant-loop-column : goal.invariant-loop-column
invariant-loop-column g l = find_id column_id l.id (drop l.index (grid_at (g.D.DocReader.document l.tables) l.table).columns)
    ≡ find_id column_id l.id (grid_at (g.D.DocReader.document l.tables) l.table).columns

abbrev pub decreases-loop-column : goal.decreases-loop-column
decreases-loop-column g l = length (grid_at (g.D.DocReader.document l.tables) l.table).columns - l.index
