use Rattle.std.proofs.Common.{◌≡◌, ◌-◌, length, take}
use Rattle.column_store.specs.New.{columns_in}
use Rattle.column_store.proofs.fresh.columns_of.Given as goal

-- the columns so far
abbrev pub invariant-loop-column : goal.invariant-loop-column
invariant-loop-column l = l.columns.items ≡ take (length l.columns.items) (columns_in l.like l.table)

abbrev pub decreases-loop-column : goal.decreases-loop-column
decreases-loop-column l = length (columns_in l.like l.table) - length l.columns.items
