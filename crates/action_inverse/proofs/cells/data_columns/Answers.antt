use Rattle.std.proofs.Common.{rules}
use Rattle.doc_readers.specs.Parts.{grid_at}
use Rattle.action_inverse.proofs.OrderLemmas.{data_sorted}
use Rattle.action_inverse.proofs.cells.data_columns.Goals as goal

pub returns : goal.returns
returns g c =
    let grid = grid_at (g.D.DocReader.document c.args.tables.now) c.args.table.now in
    data_sorted grid c.args.rows.now c.args.columns.now c.loop-column.data.items c.from.result c.loop-column.column-index
    c.loop-column-test.false c.requires c.loop-column.invariant (search rules)
