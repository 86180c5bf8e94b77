use Rattle.std.proofs.Common.{◌≡◌, drop, map}
use Rattle.doc_model.specs.Column.{column_row}
use Rattle.doc_model.specs.Rows.{has}
use Rattle.doc_actions.proofs.schema_rows.has_row.Given as goal

-- the rest decides
abbrev pub invariant-loop-column : goal.invariant-loop-column
invariant-loop-column l =
    has (map column_row (drop l.column-index l.columns)) l.row ≡ has (map column_row l.columns) l.row
