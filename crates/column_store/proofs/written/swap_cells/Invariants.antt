use Rattle.std.proofs.Common.{◌≡◌, drop, take, length}
use Rattle.row_tables.specs.InPlace.{written, written_back}
use Rattle.column_store.proofs.written.swap_cells.Given as goal

-- the rest is to be written, and what was written can be written back
abbrev pub invariant-loop-index : goal.invariant-loop-index
invariant-loop-index l =
    (drop l.index l.writes.items ≡ drop l.index l.initial.writes.items) × (length l.writes.items ≡ length l.initial.writes.items)
    × (written (drop l.index l.initial.writes.items) l.cells.rows ≡ written l.initial.writes.items l.initial.cells.rows)
    × (written_back (take l.index l.writes.items) l.cells.rows ≡ l.initial.cells.rows)
    × (l.cells.width ≡ l.initial.cells.width)
