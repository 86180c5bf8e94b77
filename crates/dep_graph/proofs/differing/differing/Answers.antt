use Rattle.dep_graph.proofs.DifferingLaws.{differing_next}
use Rattle.dep_graph.proofs.differing.differing.Goals as goal

pub returns : goal.returns
returns c = differing_next c.args.left.now c.args.right.now _ _ _ _ c.without_front.ensures c.without_back.ensures
