use Rattle.std.proofs.Common.{length}
use Rattle.formula_eval.proofs.scanning.+row_met.Given as goal

abbrev pub decreases-row_met : goal.decreases-row_met
decreases-row_met g l = length l.keys.now
