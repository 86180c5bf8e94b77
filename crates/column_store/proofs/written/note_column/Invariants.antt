use Rattle.std.proofs.Common.{◌≡◌, ◌++◌, drop}
use Rattle.row_tables.specs.InPlace.{column_writes}
use Rattle.column_store.proofs.written.note_column.Given as goal

-- what was noted and what is left to note
abbrev pub invariant-loop-index : goal.invariant-loop-index
invariant-loop-index l =
    l.writes.items ++ column_writes l.there l.column (drop l.index l.rows) (drop l.index l.values) ≡ l.initial.writes.items ++ column_writes l.there l.column l.rows l.values
