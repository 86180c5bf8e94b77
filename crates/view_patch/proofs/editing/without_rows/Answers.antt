use Rattle.std.proofs.Common.{[], ap, ◌∙◌}
use Rattle.doc_model.specs.Changes.{grid}
use Rattle.doc_model.specs.Rows.{without}
use Rattle.doc_model.specs.ViewEdits.{edited, remove}
use Rattle.view_patch.proofs.EditedCells.{becomes, rows_removed}
use Rattle.view_patch.proofs.editing.without_rows.Goals as goal

pub returns : goal.returns
returns c =
    let t = c.args.table.now in
    becomes c.rebuilt.result t.id (grid t) [] [] c.in_ok-columns_copy.field-0 t.columns c.in_ok-left.left (without c.args.rows.now t.rows) (edited (remove c.args.rows.now) (grid t))
    c.rebuilt.ensures c.in_ok-columns_copy.ensures (c.in_ok-left.ensures ∙ ap (without c.args.rows.now) c.as_slice.ensures) (rows_removed (grid t) c.requires c.args.rows.now)
