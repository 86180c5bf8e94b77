use Rattle.std.proofs.Common.{◌≡◌, ◌-◌, ◌++◌, length, drop, filter, map}
use Rattle.doc_model.specs.Column.{column_id}
use Rattle.doc_readers.specs.Parts.{grid_at}
use Rattle.affected_search.specs.Losing.{has_rows}
use Rattle.affected_search.proofs.losing.columns_named.Given as goal

-- the ids so far, and those that are to come
abbrev pub invariant-loop-column : goal.invariant-loop-column
invariant-loop-column g l =
    l.ids.items ++ filter (has_rows l.named.graph.now.names l.named.index.now l.named.action.now l.table l.written) (map column_id (drop l.place (grid_at (g.R.DocReader.document l.doc) l.table).columns))
    ≡ filter (has_rows l.named.graph.now.names l.named.index.now l.named.action.now l.table l.written) (map column_id (grid_at (g.R.DocReader.document l.doc) l.table).columns)

abbrev pub decreases-loop-column : goal.decreases-loop-column
decreases-loop-column g l = length (grid_at (g.R.DocReader.document l.doc) l.table).columns - l.place
