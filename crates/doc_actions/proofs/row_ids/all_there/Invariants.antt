use Rattle.std.proofs.Common.{◌≡◌, drop}
use Rattle.doc_model.specs.Rows.{all_in}
use Rattle.doc_actions.proofs.row_ids.all_there.Given as goal

-- the rest decides
abbrev pub invariant-loop-row : goal.invariant-loop-row
invariant-loop-row l = all_in (drop l.row-index l.wanted) l.rows ≡ all_in l.wanted l.rows
