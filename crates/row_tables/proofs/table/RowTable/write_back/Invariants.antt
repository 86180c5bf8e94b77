use Rattle.std.proofs.Common.{◌≡◌, length}
use Rattle.row_tables.specs.InPlace.{written_back}
use Rattle.row_tables.proofs.table.RowTable.write_back.Given as goal

-- what is left to write back gives what the whole gives
abbrev pub invariant-loop-write : goal.invariant-loop-write
invariant-loop-write l =
    (l.self-inside.id ≡ l.initial.self-inside.id) × (l.self-inside.row ≡ l.initial.self-inside.row)
    × (l.self-inside.columns ≡ l.initial.self-inside.columns) × (l.self-inside.rows ≡ l.initial.self-inside.rows)
    × (written_back l.writes.items l.self-inside.cells.items ≡ written_back l.initial.writes.items l.initial.self-inside.cells.items)

abbrev pub decreases-loop-write : goal.decreases-loop-write
decreases-loop-write l = length l.writes.items
