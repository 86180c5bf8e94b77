use Rattle.std.proofs.Common.{◌≡◌, ◌+◌, sym, ◌∙◌, arith}
use Rattle.affected_search.proofs.RecordReads.{cells_pushed}
use Rattle.affected_search.proofs.CellNumbers.{name_below}
use Rattle.affected_search.proofs.listed.moved_cells.Goals as goal

pub loop-reads-preserved : goal.loop-reads-preserved
loop-reads-preserved c =
    let loop = c.loop-reads in (
      cells_pushed loop.reads.items c.push_cells.new.reads.items c.in-Some.table c.args.rows.now loop.column c.in_ok-column.column loop.invariant.0 c.in_ok-push_cells.ensures c.in_ok-column.ensures,
      let below = name_below c.args.graph.now.names c.name.result loop.column c.name.ensures.name (sym c.is_some.ensures ∙ c.loop-reads-test.true) in
          let next : c.in_ok-column.column ≡ loop.column + 1 = c.in_ok-column.ensures in omega arith,
    )
