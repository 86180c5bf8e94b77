use Rattle.std.proofs.Common.{◌≡◌, map, filter, take}
use Rattle.std.specs.List.{AllByRecursion}
use Rattle.doc_model.specs.ByIds.{has_id}
use Rattle.doc_model.specs.Document.{table_id}
use Rattle.action_censor.specs.Step.{step_of}
use Rattle.action_censor.specs.TouchedTables.{IsTouchedTable, touched_id}
use Rattle.action_censor.proofs.touched_table.tables_there.Given as goal

-- the tables so far
abbrev pub invariant-loop-id : goal.invariant-loop-id
invariant-loop-id g l =
    (map touched_id l.touched.items ≡ filter (has_id table_id (g.D.DocReader.document l.tables)) (take l.id-index l.names))
    × AllByRecursion (IsTouchedTable (map step_of l.steps) (g.D.DocReader.document l.tables)) l.touched.items
