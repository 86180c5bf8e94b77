use Rattle.std.proofs.Common.{◌≡◌, ◌+◌, drop}
use Rattle.doc_model.specs.Indexes.{column_index}
use Rattle.doc_model.proofs.rows.index_of_column.Given as goal

-- the column goes behind those that were passed
abbrev pub invariant-loop-index : goal.invariant-loop-index
invariant-loop-index l = column_index l.row l.columns ≡ l.index + column_index l.row (drop l.index l.columns)
