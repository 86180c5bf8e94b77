use Rattle.std.proofs.Common.{length}
use Rattle.dep_graph.specs.Differing.{AreDiffering}
use Rattle.dep_graph.proofs.differing.without_back.Given as goal

abbrev pub invariant-back : goal.invariant-back
invariant-back l = AreDiffering l.left l.right l.gone l.more

abbrev pub decreases-back : goal.decreases-back
decreases-back l = length l.gone
