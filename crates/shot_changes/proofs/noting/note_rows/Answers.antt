use Rattle.doc_readers.specs.Parts.{grid_at}
use Rattle.doc_readers.proofs.ColumnLemmas.{column_past, column_read}
use Rattle.shot_changes.specs.NotedCells.{column_cells}
use Rattle.shot_changes.proofs.AddsLemmas.{adds_found, adds_past}
use Rattle.shot_changes.proofs.noting.note_rows.Goals as goal

pub loop-column-preserved : goal.loop-column-preserved
loop-column-preserved g c =
    let d = g.E.DocReader.document c.args.evaluated.now in
    let t = c.args.table.now in
    adds_found d (column_cells t c.args.rows.now) (grid_at d t).columns c.args.changes.now c.loop-column.index c.in-Some.column.now c.loop-column.changes c.note_column.new.changes
    (column_read d t c.loop-column.index c.in-Some.column.now c.in-Some.ensures.told) c.loop-column.invariant c.in_ok-note_column.ensures

pub returns : goal.returns
returns g c =
    let d = g.E.DocReader.document c.args.evaluated.now in
    let t = c.args.table.now in
    adds_past d (column_cells t c.args.rows.now) (grid_at d t).columns c.args.changes.now c.loop-column.index c.loop-column.changes
    (column_past d t c.loop-column.index c.in_default.ensures.told) c.loop-column.invariant
