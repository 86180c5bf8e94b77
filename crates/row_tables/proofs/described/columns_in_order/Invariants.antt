use Rattle.std.proofs.Common.{◌≡◌, ◌-◌, drop, length}
use Rattle.doc_model.specs.Schema.{all_columns, in_order}
use Rattle.row_tables.proofs.described.columns_in_order.Given as goal

-- the columns of the last tables stand in order
abbrev pub invariant-loop-passed : goal.invariant-loop-passed
invariant-loop-passed l = l.sorted.items ≡ in_order (all_columns (drop (length l.plain - l.passed) l.plain))
