use Rattle.std.proofs.Common.{◌≡◌, take}
use Rattle.column_store.specs.Crossed.{all_items}
use Rattle.column_store.proofs.columns.copies_of.Given as goal

-- the first columns are copied
abbrev pub invariant-loop-column : goal.invariant-loop-column
invariant-loop-column l = all_items l.copies.items ≡ all_items (take l.column-index l.columns)
