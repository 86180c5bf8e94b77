use Rattle.std.proofs.Common.{None, Some, sym, ◌∙◌}
use Rattle.affected_cells.specs.Touched.{rows_come_or_go}
use Rattle.affected_search.proofs.TouchTests.{adds_one, rows_same}
use Rattle.affected_search.proofs.touch.push_rows.Goals as goal

pub returns : goal.returns
returns c =
    let names = c.args.graph.now.names in
    let t = c.args.table.now in
    adds_one names (rows_come_or_go t c.args.rows.now) (record { table = c.in-Some.table; column = None; rows = Some c.in_ok-rows.rows.keys }) c.args.touches.now.items c.push.new.self.items
    (rows_same names t c.in-Some.table (sym c.number.ensures ∙ c.in-Some.is) c.args.rows.now c.in_ok-rows.rows.keys c.in_ok-rows.ensures) c.in_ok-push.ensures.items
