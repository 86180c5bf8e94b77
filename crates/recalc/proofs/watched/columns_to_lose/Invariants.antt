use Rattle.std.proofs.Common.{◌≡◌, ◌-◌, ◌++◌, length, drop, filter, map}
use Rattle.doc_model.specs.Column.{column_id}
use Rattle.doc_readers.specs.Parts.{grid_at}
use Rattle.recalc.specs.MayLose.{may_lose_at}
use Rattle.recalc.proofs.watched.columns_to_lose.Given as goal

-- the ids so far, and those that are to come
abbrev pub invariant-loop-column : goal.invariant-loop-column
invariant-loop-column g l =
    l.ids.items ++ map column_id (filter (may_lose_at l.action) (drop l.index (grid_at (g.R.DocReader.document l.doc) l.table).columns))
    ≡ map column_id (filter (may_lose_at l.action) (grid_at (g.R.DocReader.document l.doc) l.table).columns)

abbrev pub decreases-loop-column : goal.decreases-loop-column
decreases-loop-column g l = length (grid_at (g.R.DocReader.document l.doc) l.table).columns - l.index
