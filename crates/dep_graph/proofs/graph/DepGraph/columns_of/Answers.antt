use Rattle.std.proofs.Common.{true, subst, sym, ap, ◌∙◌, ◌≡◌}
use Rattle.std.specs.List.{list_any}
use Rattle.dep_graph.specs.Numbers.{is_column}
use Rattle.dep_graph.specs.Records.{holds, reads_under}
use Rattle.dep_graph.proofs.graph.DepGraph.columns_of.Goals as goal

pub returns : goal.returns
returns c d h =
    subst (λ columns. list_any (is_column d.column) columns ≡ true) (sym c.columns.ensures.columns)
    (c.columns.ensures.whole c.args.read d (c.self.invariant.0 c.args.read d ∙ ap (λ g. holds (reads_under g.reads d) c.args.read) c.self.view_is ∙ h))
