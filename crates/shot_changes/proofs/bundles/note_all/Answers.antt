use Rattle.std.proofs.Common.{◌∙◌, map, subst}
use Rattle.std.proofs.lemmas.Option.{slice_get-map}
use Rattle.doc_model.specs.Document.{table_id}
use Rattle.shot_changes.specs.NotedCells.{Adds, row_cells, table_cells}
use Rattle.shot_changes.proofs.AddsLemmas.{adds_found, adds_past}
use Rattle.shot_changes.proofs.bundles.note_all.Goals as goal

pub loop-table-preserved : goal.loop-table-preserved
loop-table-preserved g c =
    let d = g.E.DocReader.document c.args.evaluated.now in
    let t = c.in-Some.table.now in
    adds_found d (table_cells d) (map table_id d) c.args.changes.now c.loop-table.index t c.loop-table.changes c.note_rows.new.changes
    (slice_get-map table_id d c.loop-table.index ∙ c.in-Some.ensures.told) c.loop-table.invariant
    (subst (λ rows. Adds d (row_cells d t rows) c.loop-table.changes c.note_rows.new.changes) c.rows_in.ensures.value c.in_ok-note_rows.ensures)

pub returns : goal.returns
returns g c =
    let d = g.E.DocReader.document c.args.evaluated.now in
    adds_past d (table_cells d) (map table_id d) c.args.changes.now c.loop-table.index c.loop-table.changes
    (slice_get-map table_id d c.loop-table.index ∙ c.in_default.ensures.told) c.loop-table.invariant
