use Rattle.std.proofs.Common.{◌≡◌, ◌++◌, drop}
use Rattle.doc_model.specs.Rows.{without}
use Rattle.user_actions.proofs.clearing.rows_without.Given as goal

-- the rows so far, and those that are to come
abbrev pub invariant-loop-row : goal.invariant-loop-row
invariant-loop-row l = l.left.items ++ without l.gone (drop l.row-index l.rows) ≡ without l.gone l.rows
