use Rattle.std.proofs.Common.{[]}
use Rattle.doc_model.specs.ByIds.{without_id}
use Rattle.doc_model.specs.Changes.{grid}
use Rattle.doc_model.specs.ViewEdits.{edited, remove_column, shown_id}
use Rattle.view_patch.proofs.EditedCells.{becomes, column_removed}
use Rattle.view_patch.proofs.editing.without_column.Goals as goal

pub returns : goal.returns
returns c =
    let t = c.args.table.now in
    becomes c.rebuilt.result t.id (grid t) [] [] c.in_ok-columns.columns (without_id shown_id c.args.id.now t.columns) c.in_ok-rows_copy.field-0 t.rows (edited (remove_column c.args.id.now) (grid t))
    c.rebuilt.ensures c.in_ok-columns.ensures c.in_ok-rows_copy.ensures (column_removed (grid t) c.requires c.args.id.now)
