use Rattle.std.proofs.Common.{◌≡◌, drop}
use Rattle.acl_formula.specs.RuleFields.{cell_in}
use Rattle.action_censor.proofs.old_rows.find_told.Given as goal

-- the rest decides
abbrev pub invariant-loop-cell : goal.invariant-loop-cell
invariant-loop-cell l = cell_in (drop l.cell-index l.told) l.column ≡ cell_in l.told l.column
