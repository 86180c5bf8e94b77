use Rattle.std.proofs.Common.{◌≡◌, drop}
use Rattle.doc_model.specs.ByIds.{are_distinct}
use Rattle.doc_model.specs.Column.{column_id}
use Rattle.doc_actions.proofs.schema_validity.are_apart.Given as goal

-- the rest decides
abbrev pub invariant-loop-index : goal.invariant-loop-index
invariant-loop-index l = are_distinct column_id (drop l.index l.columns) ≡ are_distinct column_id l.columns
