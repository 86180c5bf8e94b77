use Rattle.std.proofs.Common.{◌≡◌, drop}
use Rattle.doc_model.specs.Rows.{all_in}
use Rattle.view_patch.proofs.rows.are_all_in.Given as goal

-- the rest decides
abbrev pub invariant-loop-row : goal.invariant-loop-row
invariant-loop-row l = all_in (drop l.row-index l.wanted) l.rows ≡ all_in l.wanted l.rows
