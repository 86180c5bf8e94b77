use Rattle.std.proofs.Common.{◌≡◌, length}
use Rattle.row_tables.specs.InPlace.{written_back}
use Rattle.column_store.proofs.table.ColumnTable.write_back.Given as goal

-- what is left to write back gives what the whole gives
abbrev pub invariant-loop-write : goal.invariant-loop-write
invariant-loop-write l =
    (l.self-inside.id ≡ l.initial.self-inside.id) × (l.self-inside.row ≡ l.initial.self-inside.row)
    × (l.self-inside.columns ≡ l.initial.self-inside.columns) × (l.self-inside.rows ≡ l.initial.self-inside.rows)
    × (l.self-inside.places ≡ l.initial.self-inside.places)
    × (l.self-inside.cells.width ≡ l.initial.self-inside.cells.width)
    × (written_back l.writes.items l.self-inside.cells.rows ≡ written_back l.initial.writes.items l.initial.self-inside.cells.rows)

abbrev pub decreases-loop-write : goal.decreases-loop-write
decreases-loop-write l = length l.writes.items
