use Rattle.std.proofs.Common.{sym, ◌∙◌}
use Rattle.dep_graph.proofs.DifferingLaws.{front_step, from_not}
use Rattle.dep_graph.proofs.differing.without_front.Goals as goal

pub front-preserved : goal.front-preserved
front-preserved c =
    front_step c.args.left.now c.args.right.now c.front.gone.now c.front.more.now c.in-Some.next.now c.in-Some-split_first.rest.now c.in-Some.first.now c.in-Some-split_first.second.now
    c.front.invariant c.in-Some.ensures.cases.0 c.in-Some-split_first.ensures.cases.0 (from_not _ (sym c.ne.ensures ∙ c.if-ne.false))
