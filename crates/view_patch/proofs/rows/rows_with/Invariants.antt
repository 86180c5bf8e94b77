use Rattle.std.proofs.Common.{◌≡◌, drop}
use Rattle.doc_model.specs.Rows.{IsAscending, insert_rows}
use Rattle.view_patch.proofs.rows.rows_with.Given as goal

-- the rest brings the same
abbrev pub invariant-loop-row : goal.invariant-loop-row
invariant-loop-row l = IsAscending l.all.items × (insert_rows (drop l.row-index l.new) l.all.items ≡ insert_rows l.new l.initial.all.items)
