use Rattle.std.proofs.Common.{◌≡◌, take}
use Rattle.doc_model.specs.ByIds.{without_id}
use Rattle.doc_model.specs.Column.{column_id}
use Rattle.row_tables.proofs.columns.columns_without.Given as goal

-- what is left of the columns so far
abbrev pub invariant-loop-column : goal.invariant-loop-column
invariant-loop-column l = l.left.items ≡ without_id column_id l.id (take l.column-index l.columns)
