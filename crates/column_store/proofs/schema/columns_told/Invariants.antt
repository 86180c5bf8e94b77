use Rattle.std.proofs.Common.{◌≡◌, ◌++◌, drop, map}
use Rattle.doc_model.specs.Schema.{all_columns, describe, described_row}
use Rattle.column_store.proofs.schema.columns_told.Given as goal

-- what was noted and what is left to note
abbrev pub invariant-loop-table : goal.invariant-loop-table
invariant-loop-table l =
    (l.rows.items ++ map described_row (all_columns (drop l.table-index l.plain)) ≡ map described_row (all_columns l.plain))
    × (l.lists.items ++ map describe (all_columns (drop l.table-index l.plain)) ≡ map describe (all_columns l.plain))
