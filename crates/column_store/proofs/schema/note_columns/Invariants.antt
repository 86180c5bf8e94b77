use Rattle.std.proofs.Common.{◌≡◌, ◌++◌, drop, map}
use Rattle.doc_model.specs.Schema.{describe, described_row}
use Rattle.row_tables.specs.Spots.{columns_of}
use Rattle.column_store.proofs.schema.note_columns.Given as goal

-- what was noted and what is left to note
abbrev pub invariant-loop-column : goal.invariant-loop-column
invariant-loop-column l =
    (l.rows.items ++ map described_row (columns_of l.parent (drop l.column-index l.columns)) ≡ l.initial.rows.items ++ map described_row (columns_of l.parent l.columns))
    × (l.lists.items ++ map describe (columns_of l.parent (drop l.column-index l.columns)) ≡ l.initial.lists.items ++ map describe (columns_of l.parent l.columns))
