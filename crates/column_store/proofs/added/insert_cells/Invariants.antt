use Rattle.std.proofs.Common.{◌≡◌, ◌≤◌, ◌+◌, drop, length}
use Rattle.std.specs.List.{AllByRecursion}
use Rattle.std.specs.Vec.Iter.{into_iter_items, into_iter_len}
use Rattle.row_tables.specs.RowIndexes.{AreWithin, put_at}
use Rattle.column_store.proofs.added.insert_cells.Given as goal

-- the rest, put in at the rest of the indexes, gives what the whole gives, and there is room for it
abbrev pub invariant-loop-list : goal.invariant-loop-list
invariant-loop-list l =
    AreWithin (drop l.placed l.indexes) (length l.cells.rows)
    × (put_at (drop l.placed l.indexes) (into_iter_items l.list-iterator) l.cells.rows ≡ put_at l.indexes l.fn.lists.items l.initial.cells.rows)
    × (length (into_iter_items l.list-iterator) + l.placed ≡ length l.indexes)
    × (into_iter_len l.list-iterator ≡ length (into_iter_items l.list-iterator))
    × (length (into_iter_items l.list-iterator) ≤ l.cells.room)
    × (l.cells.room + length l.cells.rows ≡ l.initial.cells.room + length l.initial.cells.rows)
    × (l.cells.width ≡ l.initial.cells.width)
    × AllByRecursion (λ x. length x ≡ l.initial.cells.width) (into_iter_items l.list-iterator)
