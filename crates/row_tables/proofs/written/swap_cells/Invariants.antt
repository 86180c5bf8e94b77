use Rattle.std.proofs.Common.{◌≡◌, drop, take, length}
use Rattle.row_tables.specs.InPlace.{written, written_back}
use Rattle.row_tables.proofs.written.swap_cells.Given as goal

-- the rest is to be written, and what was written can be written back
abbrev pub invariant-loop-place : goal.invariant-loop-place
invariant-loop-place l =
    (drop l.place l.writes.items ≡ drop l.place l.initial.writes.items) × (length l.writes.items ≡ length l.initial.writes.items)
    × (written (drop l.place l.initial.writes.items) l.cells.items ≡ written l.initial.writes.items l.initial.cells.items)
    × (written_back (take l.place l.writes.items) l.cells.items ≡ l.initial.cells.items)
