use Rattle.std.proofs.Common.{◌≡◌, ◌-◌, length, drop}
use Rattle.doc_model.specs.ByIds.{find_id}
use Rattle.doc_model.specs.Document.{table_id}
use Rattle.affected_search.proofs.described.table_described.Given as goal

-- the rest decides
abbrev pub invariant-loop-id : goal.invariant-loop-id
invariant-loop-id g l = find_id table_id l.table (drop l.index (g.R.DocReader.document l.tables)) ≡ find_id table_id l.table (g.R.DocReader.document l.tables)

abbrev pub decreases-loop-id : goal.decreases-loop-id
decreases-loop-id g l = length (g.R.DocReader.document l.tables) - l.index
