use Rattle.std.proofs.Common.{length}
use Rattle.dep_graph.specs.Differing.{AreDiffering}
use Rattle.dep_graph.proofs.differing.without_front.Given as goal

abbrev pub invariant-front : goal.invariant-front
invariant-front l = AreDiffering l.left l.right l.gone l.more

abbrev pub decreases-front : goal.decreases-front
decreases-front l = length l.gone
