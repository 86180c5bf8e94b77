use Rattle.view_patch.proofs.Spots.{Passed}
use Rattle.view_patch.proofs.placing.spot.Given as goal

abbrev pub invariant-loop-index : goal.invariant-loop-index
invariant-loop-index g l = Passed g.T.Named.id_of l.id l.things l.index
