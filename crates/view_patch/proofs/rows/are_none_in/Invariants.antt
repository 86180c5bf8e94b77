use Rattle.std.proofs.Common.{◌≡◌, drop}
use Rattle.doc_model.specs.Rows.{none_in}
use Rattle.view_patch.proofs.rows.are_none_in.Given as goal

-- the rest decides
abbrev pub invariant-loop-row : goal.invariant-loop-row
invariant-loop-row l = none_in (drop l.row-index l.new) l.rows ≡ none_in l.new l.rows
