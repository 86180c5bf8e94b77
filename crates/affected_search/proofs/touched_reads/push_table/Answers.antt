use Rattle.std.proofs.Common.{◌<◌, ◌+◌, refl, length, arith}
use Rattle.std.proofs.lemmas.Option.{slice_get_within}
use Rattle.doc_readers.specs.Parts.{grid_at}
use Rattle.doc_readers.proofs.ColumnLemmas.{column_past, column_read}
use Rattle.recalc.specs.Evaluated.{cells_of_column, cells_of_columns}
use Rattle.affected_search.specs.TouchedReads.{with_cells}
use Rattle.affected_search.specs.Touches.{tells}
use Rattle.affected_search.proofs.TouchedWalk.{things_end, things_next}
use Rattle.affected_search.proofs.touched_reads.push_table.Goals as goal

pub loop-column-smaller : goal.loop-column-smaller
loop-column-smaller g c =
    let s = g.R.DocReader.document c.args.tables.now in
    let columns = (grid_at s c.args.table.now).columns in
    let within : c.loop-column.index < length columns = slice_get_within columns c.loop-column.index c.in-Some.column.now (column_read s c.args.table.now c.loop-column.index c.in-Some.column.now c.in-Some.ensures.told) in
    omega (arith, within)

pub loop-column-preserved : goal.loop-column-preserved
loop-column-preserved g c =
    let s = g.R.DocReader.document c.args.tables.now in
    let t = c.args.table.now in
    let grid = grid_at s t in
    let test = tells c.args.touches.now in
    things_next test c.args.graph.now (cells_of_column t grid) (cells_of_columns t grid) (λ d ds. refl) grid.columns c.loop-column.index (c.loop-column.index + 1) c.in-Some.column.now
    c.loop-column.found c.push_column.new.found (with_cells test c.args.graph.now c.args.found.now (cells_of_columns t grid grid.columns))
    refl (column_read s t c.loop-column.index c.in-Some.column.now c.in-Some.ensures.told) c.in_ok-push_column.ensures c.loop-column.invariant

pub returns : goal.returns
returns g c =
    let s = g.R.DocReader.document c.args.tables.now in
    let t = c.args.table.now in
    let grid = grid_at s t in
    let test = tells c.args.touches.now in
    things_end test c.args.graph.now (cells_of_columns t grid) refl grid.columns c.loop-column.index c.loop-column.found (with_cells test c.args.graph.now c.args.found.now (cells_of_columns t grid grid.columns))
    (column_past s t c.loop-column.index c.in_default.ensures.told) c.loop-column.invariant
