use Rattle.recalc.specs.InOrder.{itself}
use Rattle.recalc.proofs.Insertions.{Passed}
use Rattle.recalc.proofs.names.index_of.Given as goal

abbrev pub invariant-loop-index : goal.invariant-loop-index
invariant-loop-index l = Passed itself l.id l.names l.index
