use Rattle.std.proofs.Common.{◌≡◌, drop}
use Rattle.doc_model.specs.ByIds.{are_distinct}
use Rattle.doc_model.specs.Records.{given_id}
use Rattle.doc_actions.proofs.given_columns.are_apart.Given as goal

-- the rest decides
abbrev pub invariant-loop-index : goal.invariant-loop-index
invariant-loop-index l = are_distinct given_id (drop l.index l.columns) ≡ are_distinct given_id l.columns
