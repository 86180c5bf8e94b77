use Rattle.std.proofs.Common.{[], ◌∷◌, codes}
use Rattle.doc_model.specs.MetadataIds.{tables_id}
use Rattle.affected_cells.specs.Touched.{cells_written, table_altered}
use Rattle.affected_search.proofs.TouchTests.{adds_cells, adds_first}
use Rattle.affected_search.proofs.touching.push_renamed_table.Goals as goal

pub returns : goal.returns
returns c =
    let names = c.args.graph.now.names in
    let old = c.args.touches.now.items in
    let one = c.push_table.new.touches.items in
    let two = c.push_table-2.new.touches.items in
    let new = c.push_cells.new.touches.items in
    let row = c.args.row.now in
    let written = cells_written tables_id (codes "tableId") row in
    adds_first names (table_altered c.args.table.now) (table_altered c.args.new.now ∷ written ∷ []) old one new c.in_ok-push_table.ensures
    (adds_first names (table_altered c.args.new.now) (written ∷ []) one two new c.in_ok-push_table-2.ensures
    (adds_cells names c.in_ok-described.described tables_id c.in_ok-id.id (codes "tableId") row two new c.in_ok-described.ensures c.in_ok-id.ensures c.in_ok-push_cells.ensures))
