use Rattle.std.proofs.Common.{◌≡◌, Some, sym, ap, subst}
use Rattle.std.specs.Option.{option_map}
use Rattle.dep_graph.specs.declared.numbers.CellNumber.{CellNumber}
use Rattle.dep_graph.specs.declared.numbers.ColumnNumber.{ColumnNumber}
use Rattle.dep_graph.specs.Graph.{Graph}
use Rattle.dep_graph.specs.Records.{reads_under}
use Rattle.dep_graph.specs.Sources.{cell_in}
use Rattle.dep_graph.specs.Were.{IsNotedTold}
use Rattle.dep_graph.proofs.NameLaws.{grown_same}
use Rattle.dep_graph.proofs.NamedLaws.{noted_had, noted_none}
use Rattle.dep_graph.proofs.RunLaws.{on_ok}
use Rattle.dep_graph.proofs.graph.DepGraph.note.Goals as goal

pub returns-clause-ok : goal.returns-clause-ok
returns-clause-ok c =
    let graph = c.args.self.now in
    let reader = c.args.reader.now in
    let log = c.args.log.now.items in
    let next = c.note_reads-2.new.log.items in
    let k : CellNumber = record { column = c.in-Some.column; row = reader.row } in
    let here : cell_in graph.names reader ≡ Some k = ap (option_map (λ (j : ColumnNumber). record { column = j; row = reader.row })) (sym c.in-Some.ensures) in
    on_ok c.note_reads-2.result (λ told. noted_had graph graph.names (grown_same graph.names) reader k here log next
    (subst (λ (g : Graph). IsNotedTold g.names (reads_under g.reads k) reader log next) c.self.view_is (subst (λ l. IsNotedTold c.self.inside.names l reader log next) c.recorded-reads.ensures told))) c.note_reads-2.ensures.ok
