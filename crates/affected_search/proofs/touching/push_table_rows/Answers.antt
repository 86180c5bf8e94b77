use Rattle.std.proofs.Common.{[], ◌∷◌}
use Rattle.doc_model.specs.MetadataIds.{columns_id, tables_id}
use Rattle.affected_cells.specs.Touched.{rows_come_or_go, table_altered}
use Rattle.affected_search.proofs.TouchTests.{adds_first, adds_rows}
use Rattle.affected_search.proofs.touching.push_table_rows.Goals as goal

pub returns : goal.returns
returns c =
    let names = c.args.graph.now.names in
    let old = c.args.touches.now.items in
    let one = c.push_table.new.touches.items in
    let two = c.push_rows.new.touches.items in
    let new = c.push_rows-2.new.touches.items in
    let row = c.args.row.now in
    let rows = c.args.columns.now in
    adds_first names (table_altered c.args.table.now) (rows_come_or_go tables_id row ∷ rows_come_or_go columns_id rows ∷ []) old one new c.in_ok-push_table.ensures
    (adds_first names (rows_come_or_go tables_id row) (rows_come_or_go columns_id rows ∷ []) one two new
    (adds_rows names c.in_ok-described.described tables_id row one two c.in_ok-described.ensures c.in_ok-push_rows.ensures)
    (adds_rows names c.in_ok-columns_described.columns_described columns_id rows two new c.in_ok-columns_described.ensures c.in_ok-push_rows-2.ensures))
