use Rattle.std.proofs.Common.{◌≡◌, ◌-◌, drop, length}
use Rattle.doc_model.specs.Column.{column_row}
use Rattle.doc_model.specs.Document.{by_row}
use Rattle.column_store.proofs.plain_change.columns_by_row.Given as goal

-- the last of the columns stand in order
abbrev pub invariant-loop-passed : goal.invariant-loop-passed
invariant-loop-passed l = l.sorted.items ≡ by_row column_row (drop (length l.columns - l.passed) l.columns)
