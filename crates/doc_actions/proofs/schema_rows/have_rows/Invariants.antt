use Rattle.std.proofs.Common.{◌≡◌, drop, map}
use Rattle.doc_model.specs.Column.{column_row}
use Rattle.doc_model.specs.Valid.{from_one}
use Rattle.doc_actions.proofs.schema_rows.have_rows.Given as goal

-- the rest decides
abbrev pub invariant-loop-column : goal.invariant-loop-column
invariant-loop-column l =
    from_one (map column_row (drop l.column-index l.columns)) ≡ from_one (map column_row l.columns)
