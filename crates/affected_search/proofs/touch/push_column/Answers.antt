use Rattle.std.proofs.Common.{None, Some, sym, ◌∙◌}
use Rattle.affected_cells.specs.Touched.{column_altered}
use Rattle.affected_search.proofs.TouchTests.{adds_one, column_same}
use Rattle.affected_search.proofs.touch.push_column.Goals as goal

pub returns : goal.returns
returns c =
    let names = c.args.graph.now.names in
    let t = c.args.table.now in
    let k = c.args.column.now in
    let j = c.in-Some.number in
    adds_one names (column_altered t k) (record { table = j.table; column = Some j.column; rows = None }) c.args.touches.now.items c.push.new.self.items
    (column_same names t k j (sym c.column_number.ensures ∙ c.in-Some.is)) c.in_ok-push.ensures.items
