use Rattle.std.proofs.Common.{◌≡◌, ◌-◌, ◌++◌, length, drop, filter, map}
use Rattle.doc_model.specs.Document.{table_id}
use Rattle.affected_search.specs.Losing.{is_table_named}
use Rattle.affected_search.proofs.losing.tables_named.Given as goal

-- the ids so far, and those that are to come
abbrev pub invariant-loop-id : goal.invariant-loop-id
invariant-loop-id g l =
    l.ids.items ++ filter (is_table_named l.named.graph.now.names l.named.index.now (g.R.DocReader.document l.doc) l.named.action.now) (map table_id (drop l.place (g.R.DocReader.document l.doc)))
    ≡ filter (is_table_named l.named.graph.now.names l.named.index.now (g.R.DocReader.document l.doc) l.named.action.now) (map table_id (g.R.DocReader.document l.doc))

abbrev pub decreases-loop-id : goal.decreases-loop-id
decreases-loop-id g l = length (g.R.DocReader.document l.doc) - l.place
