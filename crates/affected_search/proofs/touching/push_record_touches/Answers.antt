use Rattle.std.proofs.Common.{OnOk, map, subst, sym}
use Rattle.doc_model.specs.declared.column.CellColumn.{CellColumn}
use Rattle.affected_cells.specs.Touched.{cells_written}
use Rattle.affected_search.specs.Touches.{AddsTouches, record_touches}
use Rattle.affected_search.proofs.touching.push_record_touches.Goals as goal

pub returns-in-BulkUpdate : goal.returns-in-BulkUpdate
returns-in-BulkUpdate c =
    let names = c.args.graph.now.names in
    let old = c.args.touches.now.items in
    let new = c.push_given.new.touches.items in
    let t = c.in-BulkUpdate.table in
    subst (λ a. OnOk c.push_given.result (AddsTouches names (record_touches a) old new)) (sym c.in-BulkUpdate.is)
    (subst (λ ks. OnOk c.push_given.result (AddsTouches names (map (λ (k : CellColumn). cells_written t k.id c.in-BulkUpdate.rows) ks) old new)) c.as_slice-in-BulkUpdate.ensures
    (subst (λ rows. OnOk c.push_given.result (AddsTouches names (map (λ (k : CellColumn). cells_written t k.id rows) c.as_slice-in-BulkUpdate.result.now) old new)) c.as_slice.ensures c.push_given.ensures))
