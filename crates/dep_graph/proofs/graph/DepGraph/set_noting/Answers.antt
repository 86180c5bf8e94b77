use Rattle.std.proofs.Common.{subst}
use Rattle.dep_graph.specs.Graph.{Graph}
use Rattle.dep_graph.specs.Records.{AreOfNames}
use Rattle.dep_graph.specs.Were.{IsLogged}
use Rattle.dep_graph.proofs.NameLaws.{cell_stays, grown_twice}
use Rattle.dep_graph.proofs.NamedLaws.{logged_noted}
use Rattle.dep_graph.proofs.OfNames.{either_way, of_grown, of_recorded, of_same}
use Rattle.dep_graph.proofs.graph.DepGraph.set_noting.Goals as goal

pub invariant_of-self-2 : goal.invariant_of-self-2
invariant_of-self-2 c =
    let old = c.self.inside.names in
    let names = c.run_numbers.new.names in
    let was = c.self.inside.reads.entries in
    let now = c.record_noting.new.reads.entries in
    let of : AreOfNames names was = of_grown old names was (grown_twice old c.cell_number.new.names names c.cell_number.ensures.grown c.run_numbers.ensures.grown) c.self.invariant.1 in (
      c.record_noting.ensures.inverse,
      either_way c.record_noting.result c.record_noting.ensures.ok c.record_noting.ensures.err
          (λ recorded. of_recorded names was now of c.args.reader.now c.in_ok-cell.cell c.in_ok-new.new.items (cell_stays c.cell_number.new.names names c.run_numbers.ensures.grown c.args.reader.now c.in_ok-cell.cell c.in_ok-cell.ensures.ok) recorded)
          (λ same. of_same names was now of same),
    )

pub returns-clause-logged : goal.returns-clause-logged
returns-clause-logged c =
    let old : Graph = record { names = c.self.inside.names; reads = c.self.inside.reads.entries } in
    let names = c.run_numbers.new.names in
    let reader = c.args.reader.now in
    let log = c.args.log.now.items in
    let next = c.record_noting.new.log.items in
    let now = c.record_noting.new.reads.entries in
    subst (λ (g : Graph). IsLogged g (record { names = names; reads = now }) reader log next) c.self.view_is
    (logged_noted old names (grown_twice c.self.inside.names c.cell_number.new.names names c.cell_number.ensures.grown c.run_numbers.ensures.grown) reader c.in_ok-cell.cell
    (cell_stays c.cell_number.new.names names c.run_numbers.ensures.grown reader c.in_ok-cell.cell c.in_ok-cell.ensures.ok) log next now c.record_noting.ensures.noted)
