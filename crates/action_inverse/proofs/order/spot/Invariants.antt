use Rattle.action_inverse.proofs.SpotLemmas.{IsPast}
use Rattle.action_inverse.proofs.order.spot.Given as goal

abbrev pub invariant-loop-index : goal.invariant-loop-index
invariant-loop-index l = IsPast l.column l.columns l.index
