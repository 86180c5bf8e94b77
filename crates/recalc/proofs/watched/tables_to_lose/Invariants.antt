use Rattle.std.proofs.Common.{◌≡◌, ◌-◌, ◌++◌, length, drop, filter, map}
use Rattle.doc_model.specs.Document.{table_id}
use Rattle.recalc.specs.MayLose.{may_lose_in}
use Rattle.recalc.proofs.watched.tables_to_lose.Given as goal

-- the ids so far, and those that are to come
abbrev pub invariant-loop-id : goal.invariant-loop-id
invariant-loop-id g l =
    l.ids.items ++ filter (may_lose_in (g.R.DocReader.document l.doc) l.action) (map table_id (drop l.index (g.R.DocReader.document l.doc)))
    ≡ filter (may_lose_in (g.R.DocReader.document l.doc) l.action) (map table_id (g.R.DocReader.document l.doc))

abbrev pub decreases-loop-id : goal.decreases-loop-id
decreases-loop-id g l = length (g.R.DocReader.document l.doc) - l.index
