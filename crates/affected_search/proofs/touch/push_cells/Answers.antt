use Rattle.std.proofs.Common.{Some, sym, ◌∙◌}
use Rattle.affected_cells.specs.Touched.{cells_written}
use Rattle.affected_search.proofs.TouchTests.{adds_one, cells_same}
use Rattle.affected_search.proofs.touch.push_cells.Goals as goal

pub returns : goal.returns
returns c =
    let names = c.args.graph.now.names in
    let t = c.args.table.now in
    let k = c.args.column.now in
    let j = c.in-Some.number in
    adds_one names (cells_written t k c.args.rows.now) (record { table = j.table; column = Some j.column; rows = Some c.in_ok-rows.rows.keys }) c.args.touches.now.items c.push.new.self.items
    (cells_same names t k j (sym c.column_number.ensures ∙ c.in-Some.is) c.args.rows.now c.in_ok-rows.rows.keys c.in_ok-rows.ensures) c.in_ok-push.ensures.items
