use Rattle.doc_readers.specs.Parts.{grid_at}
use Rattle.doc_readers.proofs.ColumnLemmas.{column_past, column_read}
use Rattle.action_censor.specs.ToldCells.{old_cell}
use Rattle.action_censor.proofs.CellLemmas.{cells_end, cells_next}
use Rattle.action_censor.proofs.old_rows.old_cells.Goals as goal

pub loop-column-preserved : goal.loop-column-preserved
loop-column-preserved g c =
    let s = g.D.DocReader.document c.args.tables.now in
    let id = c.args.table.now in
    cells_next (old_cell c.args.told.now (grid_at s id) c.args.row) (grid_at s id).columns c.loop-column.index c.in-Some.column.now c.in_ok-old_cell.field-0
    c.loop-column.cells c.push.new.self (column_read s id c.loop-column.index c.in-Some.column.now c.in-Some.ensures.told) c.loop-column.invariant c.in_ok-old_cell.ensures c.in_ok-push.ensures.ok

pub returns : goal.returns
returns g c =
    let s = g.D.DocReader.document c.args.tables.now in
    let id = c.args.table.now in
    cells_end (old_cell c.args.told.now (grid_at s id) c.args.row) (grid_at s id).columns c.loop-column.index c.loop-column.cells
    (column_past s id c.loop-column.index c.in_default.ensures.told) c.loop-column.invariant
