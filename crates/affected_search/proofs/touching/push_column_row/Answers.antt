use Rattle.std.proofs.Common.{[], ◌∷◌}
use Rattle.doc_model.specs.MetadataIds.{columns_id}
use Rattle.affected_cells.specs.Touched.{column_altered, rows_come_or_go}
use Rattle.affected_search.proofs.TouchTests.{adds_first, adds_rows}
use Rattle.affected_search.proofs.touching.push_column_row.Goals as goal

pub returns : goal.returns
returns c =
    let names = c.args.graph.now.names in
    let old = c.args.touches.now.items in
    let one = c.push_column.new.touches.items in
    let new = c.push_rows.new.touches.items in
    let row = c.args.row.now in
    adds_first names (column_altered c.args.table.now c.args.column.now) (rows_come_or_go columns_id row ∷ []) old one new c.in_ok-push_column.ensures
    (adds_rows names c.in_ok-described.described columns_id row one new c.in_ok-described.ensures c.in_ok-push_rows.ensures)
