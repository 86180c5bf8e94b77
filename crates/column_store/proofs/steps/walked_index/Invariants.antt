use Rattle.std.proofs.Common.{◌≡◌, drop}
use Rattle.doc_model.specs.ByIds.{find_id}
use Rattle.doc_model.specs.Document.{table_id}
use Rattle.column_store.proofs.steps.walked_index.Given as goal

-- the rest finds what the whole finds
abbrev pub invariant-loop-index : goal.invariant-loop-index
invariant-loop-index l = find_id table_id l.id (drop l.index l.tables) ≡ find_id table_id l.id l.tables
