use Rattle.std.proofs.Common.{◌≡◌, ◌≤◌, ◌+◌, vec_len, vec_capacity, length}
use Rattle.row_tables.specs.InPlace.{rows_again, cells_again}
use Rattle.column_store.specs.Changes.{AreWide}
use Rattle.column_store.proofs.removed.put_again.Given as goal

-- what is left to put in gives what the whole gives, and there is room for it
abbrev pub invariant-loop-last : goal.invariant-loop-last
invariant-loop-last l =
    (rows_again l.taken.items l.rows.items ≡ rows_again l.initial.taken.items l.initial.rows.items)
    × (cells_again l.taken.items l.cells.rows ≡ cells_again l.initial.taken.items l.initial.cells.rows)
    × (vec_len l.rows + vec_len l.taken ≤ vec_capacity l.rows) × (vec_len l.taken ≤ l.cells.room)
    × (l.cells.room + length l.cells.rows ≡ l.initial.cells.room + length l.initial.cells.rows)
    × (l.cells.width ≡ l.initial.cells.width) × AreWide l.initial.cells.width l.taken.items

abbrev pub decreases-loop-last : goal.decreases-loop-last
decreases-loop-last l = length l.taken.items
