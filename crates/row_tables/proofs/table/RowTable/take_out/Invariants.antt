use Rattle.std.proofs.Common.{◌≡◌, length}
use Rattle.row_tables.specs.RowIndexes.{taken_out}
use Rattle.row_tables.proofs.table.RowTable.take_out.Given as goal

-- what is left to take out gives what the whole gives
abbrev pub invariant-loop-index : goal.invariant-loop-index
invariant-loop-index l =
    (l.self-inside.id ≡ l.initial.self-inside.id) × (l.self-inside.row ≡ l.initial.self-inside.row) × (l.self-inside.columns ≡ l.initial.self-inside.columns)
    × (taken_out l.indexes.items l.self-inside.rows.items ≡ taken_out l.initial.indexes.items l.initial.self-inside.rows.items)
    × (taken_out l.indexes.items l.self-inside.cells.items ≡ taken_out l.initial.indexes.items l.initial.self-inside.cells.items)

abbrev pub decreases-loop-index : goal.decreases-loop-index
decreases-loop-index l = length l.indexes.items
