use Rattle.std.proofs.Common.{◌≡◌, ◌-◌, drop, length}
use Rattle.row_tables.specs.Spots.{columns_of, put_all}
use Rattle.row_tables.proofs.described.put_columns.Given as goal

-- the last of the columns stand in their places
abbrev pub invariant-loop-passed : goal.invariant-loop-passed
invariant-loop-passed l = l.sorted.items ≡ put_all (columns_of l.parent (drop (length l.columns - l.passed) l.columns)) l.initial.sorted.items
