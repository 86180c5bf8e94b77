use Rattle.std.proofs.Common.{sym, ◌∙◌}
use Rattle.dep_graph.proofs.DifferingLaws.{back_step, from_not}
use Rattle.dep_graph.proofs.differing.without_back.Goals as goal

pub back-preserved : goal.back-preserved
back-preserved c =
    back_step c.args.left.now c.args.right.now c.back.gone.now c.back.more.now c.in-Some.next.now c.in-Some-split_last.rest.now c.in-Some.first.now c.in-Some-split_last.second.now
    c.back.invariant c.in-Some.ensures.cases.0 c.in-Some-split_last.ensures.cases.0 (from_not _ (sym c.ne.ensures ∙ c.if-ne.false))
