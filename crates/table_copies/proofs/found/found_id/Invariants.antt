use Rattle.std.proofs.Common.{◌≡◌, ◌-◌, length, take, None}
use Rattle.doc_model.specs.ByIds.{find_id}
use Rattle.doc_model.specs.Document.{table_id}
use Rattle.table_copies.proofs.found.found_id.Given as goal

-- no table so far has the id
abbrev pub invariant-loop-id : goal.invariant-loop-id
invariant-loop-id g l = find_id table_id l.table (take l.index (g.D.DocReader.document l.tables)) ≡ None

abbrev pub decreases-loop-id : goal.decreases-loop-id
decreases-loop-id g l = length (g.D.DocReader.document l.tables) - l.index
