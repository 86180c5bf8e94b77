use Rattle.std.proofs.Common.{◌≡◌, ◌≤◌, ◌+◌, vec_len, vec_capacity, length}
use Rattle.row_tables.specs.InPlace.{rows_again, cells_again}
use Rattle.row_tables.proofs.removed.put_again.Given as goal

-- what is left to put in gives what the whole gives, and there is room for it
abbrev pub invariant-loop-last : goal.invariant-loop-last
invariant-loop-last l =
    (rows_again l.taken.items l.rows.items ≡ rows_again l.initial.taken.items l.initial.rows.items)
    × (cells_again l.taken.items l.cells.items ≡ cells_again l.initial.taken.items l.initial.cells.items)
    × (vec_len l.rows + vec_len l.taken ≤ vec_capacity l.rows) × (vec_len l.cells + vec_len l.taken ≤ vec_capacity l.cells)

abbrev pub decreases-loop-last : goal.decreases-loop-last
decreases-loop-last l = length l.taken.items
