use Rattle.std.proofs.Common.{◌≡◌, ◌≤◌, ◌+◌, ◌-◌, ◌++◌, drop, length, vec_len, vec_capacity}
use Rattle.row_tables.specs.RowIndexes.{AreNew, new_indexes, put_at}
use Rattle.column_store.proofs.added.insert_rows.Given as goal

-- the rest, put in, gives what the whole gives, and there is room for it
abbrev pub invariant-loop-row : goal.invariant-loop-row
invariant-loop-row l =
    AreNew (drop l.row-index l.new) l.rows.items
    × (put_at (new_indexes (drop l.row-index l.new) l.rows.items) (drop l.row-index l.new) l.rows.items ≡ put_at (new_indexes l.new l.initial.rows.items) l.new l.initial.rows.items)
    × (l.indexes.items ++ new_indexes (drop l.row-index l.new) l.rows.items ≡ l.initial.indexes.items ++ new_indexes l.new l.initial.rows.items)
    × (vec_len l.rows + (length l.new - l.row-index) ≤ vec_capacity l.rows)
    × (vec_len l.indexes + (length l.new - l.row-index) ≤ vec_capacity l.indexes)
