use Rattle.std.proofs.Common.{◌≡◌, filter, take}
use Rattle.doc_model.specs.Changes.{grid}
use Rattle.plain_view.specs.Told.{is_told_at}
use Rattle.plain_view.proofs.records.rows_told.Given as goal

abbrev pub invariant-loop-row : goal.invariant-loop-row
invariant-loop-row l = l.rows.items ≡ filter (is_told_at (grid l.before) (grid l.after) l.indexes) (take l.row-index l.after.rows)
