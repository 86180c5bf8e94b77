use Rattle.recalc.proofs.Progress.{EachOf}
use Rattle.affected_values.proofs.NamedLemmas.{AreFound, IsNamed}
use Rattle.affected_values.proofs.naming.named_cells.Given as goal

abbrev pub invariant-loop-number : goal.invariant-loop-number
invariant-loop-number l = record {
  named : EachOf (IsNamed l.graph.names l.named.items) l.cells l.number-index;
  only : AreFound l.graph l.cells l.named.items;
}
