use Rattle.std.proofs.Common.{◌≡◌, ◌+◌, drop}
use Rattle.row_tables.specs.Steps.{table_index}
use Rattle.column_store.proofs.steps.index_by_row.Given as goal

-- the index is behind those that were passed
abbrev pub invariant-loop-index : goal.invariant-loop-index
invariant-loop-index l = table_index l.row l.tables ≡ l.index + table_index l.row (drop l.index l.tables)
