use Rattle.std.proofs.Common.{◌≡◌, map, take}
use Rattle.doc_model.specs.Column.{column_row}
use Rattle.affected_search.proofs.described.rows_of_new.Given as goal

abbrev pub invariant-loop-column : goal.invariant-loop-column
invariant-loop-column l = l.rows.items ≡ map column_row (take l.column-index l.columns)
