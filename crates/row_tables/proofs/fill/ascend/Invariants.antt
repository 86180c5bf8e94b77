use Rattle.std.proofs.Common.{◌-◌, ◌≤◌, drop, length}
use Rattle.doc_model.specs.Rows.{IsAscending}
use Rattle.row_tables.proofs.fill.ascend.Given as goal

abbrev pub invariant-loop-index : goal.invariant-loop-index
invariant-loop-index l = (l.index ≤ length l.rows) × IsAscending (drop (l.index - 1) l.rows)

abbrev pub decreases-loop-index : goal.decreases-loop-index
decreases-loop-index l = l.index
