use Rattle.std.proofs.Common.{None, sym, ◌∙◌}
use Rattle.affected_cells.specs.Touched.{table_altered}
use Rattle.affected_search.proofs.TouchTests.{adds_one, table_same}
use Rattle.affected_search.proofs.touch.push_table.Goals as goal

pub returns : goal.returns
returns c =
    let names = c.args.graph.now.names in
    let t = c.args.table.now in
    adds_one names (table_altered t) (record { table = c.in-Some.table; column = None; rows = None }) c.args.touches.now.items c.push.new.self.items
    (table_same names t c.in-Some.table (sym c.number.ensures ∙ c.in-Some.is)) c.in_ok-push.ensures.items
