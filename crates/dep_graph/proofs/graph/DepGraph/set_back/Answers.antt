use Rattle.dep_graph.specs.Records.{AreOfNames}
use Rattle.dep_graph.proofs.NameLaws.{cell_stays, grown_twice}
use Rattle.dep_graph.proofs.OfNames.{either_way, of_grown, of_recorded, of_same}
use Rattle.dep_graph.proofs.graph.DepGraph.set_back.Goals as goal

pub invariant_of-self-2 : goal.invariant_of-self-2
invariant_of-self-2 c =
    let old = c.self.inside.names in
    let names = c.named_numbers.new.names in
    let was = c.self.inside.reads.entries in
    let now = c.record.new.reads.entries in
    let reader = c.were.inside.cell in
    let of : AreOfNames names was = of_grown old names was (grown_twice old c.cell_number.new.names names c.cell_number.ensures.grown c.named_numbers.ensures.grown) c.self.invariant.1 in (
      c.record.ensures.inverse,
      either_way c.record.result c.record.ensures.ok c.record.ensures.err
          (λ recorded. of_recorded names was now of reader c.in_ok-cell.cell c.in_ok-new.new.items (cell_stays c.cell_number.new.names names c.named_numbers.ensures.grown reader c.in_ok-cell.cell c.in_ok-cell.ensures.ok) recorded)
          (λ same. of_same names was now of same),
    )
