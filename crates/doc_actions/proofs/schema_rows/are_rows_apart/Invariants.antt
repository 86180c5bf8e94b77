use Rattle.std.proofs.Common.{◌≡◌, drop, map}
use Rattle.doc_model.specs.Column.{column_row}
use Rattle.doc_model.specs.Rows.{has_no_duplicates}
use Rattle.doc_actions.proofs.schema_rows.are_rows_apart.Given as goal

-- the rest decides
abbrev pub invariant-loop-index : goal.invariant-loop-index
invariant-loop-index l =
    has_no_duplicates (map column_row (drop l.index l.columns)) ≡ has_no_duplicates (map column_row l.columns)
