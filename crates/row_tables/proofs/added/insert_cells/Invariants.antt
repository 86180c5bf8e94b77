use Rattle.std.proofs.Common.{◌≡◌, ◌≤◌, ◌+◌, drop, length, vec_len, vec_capacity}
use Rattle.std.specs.Vec.Iter.{into_iter_items, into_iter_len}
use Rattle.row_tables.specs.RowIndexes.{AreWithin, put_at}
use Rattle.row_tables.proofs.added.insert_cells.Given as goal

-- the rest, put in at the rest of the indexes, gives what the whole gives, and there is room for it
abbrev pub invariant-loop-list : goal.invariant-loop-list
invariant-loop-list l =
    AreWithin (drop l.placed l.indexes) (length l.cells.items)
    × (put_at (drop l.placed l.indexes) (into_iter_items l.list-iterator) l.cells.items ≡ put_at l.indexes l.fn.lists.items l.initial.cells.items)
    × (length (into_iter_items l.list-iterator) + l.placed ≡ length l.indexes)
    × (into_iter_len l.list-iterator ≡ length (into_iter_items l.list-iterator))
    × (vec_len l.cells + length (into_iter_items l.list-iterator) ≤ vec_capacity l.cells)
