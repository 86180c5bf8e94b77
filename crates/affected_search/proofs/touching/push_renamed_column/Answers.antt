use Rattle.std.proofs.Common.{[], ◌∷◌, codes}
use Rattle.doc_model.specs.MetadataIds.{columns_id}
use Rattle.affected_cells.specs.Touched.{cells_written, column_altered}
use Rattle.affected_search.proofs.TouchTests.{adds_cells, adds_first}
use Rattle.affected_search.proofs.touching.push_renamed_column.Goals as goal

pub returns : goal.returns
returns c =
    let names = c.args.graph.now.names in
    let t = c.args.table.now in
    let old = c.args.touches.now.items in
    let one = c.push_column.new.touches.items in
    let two = c.push_column-2.new.touches.items in
    let new = c.push_cells.new.touches.items in
    let row = c.args.row.now in
    let written = cells_written columns_id (codes "colId") row in
    adds_first names (column_altered t c.args.column.now) (column_altered t c.args.new.now ∷ written ∷ []) old one new c.in_ok-push_column.ensures
    (adds_first names (column_altered t c.args.new.now) (written ∷ []) one two new c.in_ok-push_column-2.ensures
    (adds_cells names c.in_ok-described.described columns_id c.in_ok-id.id (codes "colId") row two new c.in_ok-described.ensures c.in_ok-id.ensures c.in_ok-push_cells.ensures))
