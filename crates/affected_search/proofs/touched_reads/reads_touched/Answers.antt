use Rattle.std.proofs.Common.{◌<◌, ◌+◌, ◌∙◌, [], refl, length, arith}
use Rattle.std.proofs.lemmas.Option.{slice_get_within}
use Rattle.doc_model.specs.Document.{Table}
use Rattle.recalc.specs.Evaluated.{cells_of_columns, formula_cells}
use Rattle.recalc.proofs.WalkLemmas.{table_past, table_read}
use Rattle.affected_search.specs.TouchedReads.{with_cells}
use Rattle.affected_search.specs.Touches.{tells}
use Rattle.affected_search.proofs.TouchedWalk.{table_read_by, things_end, things_next}
use Rattle.affected_search.proofs.touched_reads.reads_touched.Goals as goal

pub loop-table-smaller : goal.loop-table-smaller
loop-table-smaller g c =
    let s = g.R.DocReader.document c.args.tables.now in
    let t = table_read s c.loop-table.index c.in-Some.table.now c.in-Some.ensures.told in
    let within : c.loop-table.index < length s = slice_get_within s c.loop-table.index t.0 t.1 in
    omega (arith, within)

pub loop-table-preserved : goal.loop-table-preserved
loop-table-preserved g c whole =
    let s = g.R.DocReader.document c.args.tables.now in
    let test = tells c.args.touches.now in
    let t = table_read s c.loop-table.index c.in-Some.table.now c.in-Some.ensures.told in
    things_next test c.args.graph.now (λ (t : Table). cells_of_columns t.id t.grid t.grid.columns) formula_cells (λ t ts. refl) s c.loop-table.index (c.loop-table.index + 1) t.0
    c.loop-table.found c.push_table.new.found (with_cells test c.args.graph.now [] (formula_cells s)) refl t.1
    (table_read_by test c.args.graph.now s whole c.loop-table.index t.0 c.in-Some.table.now t.1 t.2 c.loop-table.found c.push_table.new.found c.in_ok-push_table.ensures)
    (c.loop-table.invariant whole)

pub returns : goal.returns
returns g c whole =
    let s = g.R.DocReader.document c.args.tables.now in
    let test = tells c.args.touches.now in
    c.into_reads.ensures
    ∙ things_end test c.args.graph.now formula_cells refl s c.loop-table.index c.loop-table.found (with_cells test c.args.graph.now [] (formula_cells s))
    (table_past s c.loop-table.index c.in_default.ensures.told) (c.loop-table.invariant whole)
