use Rattle.std.proofs.Common.{◌≡◌, ◌++◌, drop}
use Rattle.row_tables.specs.InPlace.{all_writes}
use Rattle.column_store.proofs.table.ColumnTable.writes.Given as goal

-- what was noted and what is left to note
abbrev pub invariant-loop-column : goal.invariant-loop-column
invariant-loop-column l = l.writes.items ++ all_writes l.self.grid l.rows (drop l.column-index l.given) ≡ all_writes l.self.grid l.rows l.given
