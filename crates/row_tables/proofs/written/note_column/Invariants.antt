use Rattle.std.proofs.Common.{◌≡◌, ◌++◌, drop}
use Rattle.row_tables.specs.InPlace.{column_writes}
use Rattle.row_tables.proofs.written.note_column.Given as goal

-- what was noted and what is left to note
abbrev pub invariant-loop-place : goal.invariant-loop-place
invariant-loop-place l =
    l.writes.items ++ column_writes l.there l.column (drop l.place l.rows) (drop l.place l.values) ≡ l.initial.writes.items ++ column_writes l.there l.column l.rows l.values
