use Rattle.std.proofs.Common.{◌≡◌, drop, map}
use Rattle.doc_model.specs.Column.{column_row}
use Rattle.doc_model.specs.Rows.{none_in}
use Rattle.doc_actions.proofs.schema_rows.have_other_rows.Given as goal

-- the rest decides
abbrev pub invariant-loop-column : goal.invariant-loop-column
invariant-loop-column l =
    none_in (map column_row (drop l.column-index l.columns)) l.rows ≡ none_in (map column_row l.columns) l.rows
