use Rattle.std.proofs.Common.{◌≡◌, filter, take}
use Rattle.doc_model.specs.Rows.{has}
use Rattle.censored_view.proofs.row_lists.rows_there.Given as goal

abbrev pub invariant-loop-row : goal.invariant-loop-row
invariant-loop-row l = l.there.items ≡ filter (has l.rows) (take l.row-index l.wanted)
