use Rattle.std.proofs.Common.{◌≡◌, drop}
use Rattle.acl_formula.specs.RuleFields.{cell_in}
use Rattle.agreeing_contexts.proofs.agreement.cell_in.Given as goal

abbrev pub invariant-loop-cell : goal.invariant-loop-cell
invariant-loop-cell l = cell_in (drop l.cell-index l.cells) l.name ≡ cell_in l.cells l.name
