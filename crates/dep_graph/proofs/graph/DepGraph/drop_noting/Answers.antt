use Rattle.std.proofs.Common.{◌≡◌, Some, sym, ap, subst}
use Rattle.std.specs.Option.{is_some, option_map}
use Rattle.dep_graph.specs.declared.numbers.CellNumber.{CellNumber}
use Rattle.dep_graph.specs.declared.numbers.ColumnNumber.{ColumnNumber}
use Rattle.dep_graph.specs.Graph.{Graph}
use Rattle.dep_graph.specs.Sources.{cell_in}
use Rattle.dep_graph.specs.Were.{IsLogged, IsNotedLast}
use Rattle.dep_graph.proofs.NameLaws.{grown_same}
use Rattle.dep_graph.proofs.NamedLaws.{logged_forgotten, noted_had}
use Rattle.dep_graph.proofs.RunLaws.{on_ok}
use Rattle.dep_graph.proofs.graph.DepGraph.drop_noting.Goals as goal

pub returns-clause-logged : goal.returns-clause-logged
returns-clause-logged c =
    let graph : Graph = record { names = c.self.inside.names; reads = c.self.inside.reads.entries } in
    let reader = c.args.reader.now in
    let log = c.args.log.now.items in
    let next = c.forget_noting.new.log.items in
    let k : CellNumber = record { column = c.in-Some.column; row = reader.row } in
    let here : cell_in graph.names reader ≡ Some k = subst (λ (g : Graph). cell_in g.names reader ≡ Some k) (sym c.self.view_is) (ap (option_map (λ (j : ColumnNumber). record { column = j; row = reader.row })) (sym c.in-Some.ensures)) in
    subst (λ (g : Graph). IsLogged g (record { names = graph.names; reads = c.forget_noting.new.reads.entries }) reader log next) c.self.view_is
    (logged_forgotten graph c.forget_noting.new.reads.entries reader k here log next c.forget_noting.result c.forget_noting.ensures.noted c.forget_noting.ensures.err c.forget_noting.ensures.unnoted)

pub returns-clause-noted : goal.returns-clause-noted
returns-clause-noted c =
    let graph : Graph = record { names = c.self.inside.names; reads = c.self.inside.reads.entries } in
    let reader = c.args.reader.now in
    let log = c.args.log.now.items in
    let next = c.forget_noting.new.log.items in
    let k : CellNumber = record { column = c.in-Some.column; row = reader.row } in
    let here : cell_in graph.names reader ≡ Some k = subst (λ (g : Graph). cell_in g.names reader ≡ Some k) (sym c.self.view_is) (ap (option_map (λ (j : ColumnNumber). record { column = j; row = reader.row })) (sym c.in-Some.ensures)) in
    on_ok c.forget_noting.result (λ told there. subst (λ (g : Graph). IsNotedLast g reader log next) c.self.view_is (noted_had graph graph.names (grown_same graph.names) reader k here log next told)) c.forget_noting.ensures.noted
