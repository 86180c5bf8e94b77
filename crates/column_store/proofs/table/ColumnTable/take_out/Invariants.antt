use Rattle.std.proofs.Common.{◌≡◌, length}
use Rattle.row_tables.specs.RowIndexes.{taken_out}
use Rattle.column_store.proofs.table.ColumnTable.take_out.Given as goal

-- what is left to take out gives what the whole gives
abbrev pub invariant-loop-index : goal.invariant-loop-index
invariant-loop-index l =
    (l.self-inside.id ≡ l.initial.self-inside.id) × (l.self-inside.row ≡ l.initial.self-inside.row) × (l.self-inside.columns ≡ l.initial.self-inside.columns)
    × (l.self-inside.places ≡ l.initial.self-inside.places) × (l.self-inside.cells.width ≡ l.initial.self-inside.cells.width)
    × (taken_out l.indexes.items l.self-inside.rows.items ≡ taken_out l.initial.indexes.items l.initial.self-inside.rows.items)
    × (taken_out l.indexes.items l.self-inside.cells.rows ≡ taken_out l.initial.indexes.items l.initial.self-inside.cells.rows)

abbrev pub decreases-loop-index : goal.decreases-loop-index
decreases-loop-index l = length l.indexes.items
