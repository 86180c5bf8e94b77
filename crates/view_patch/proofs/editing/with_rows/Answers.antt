use Rattle.std.proofs.Common.{ap, ◌∙◌}
use Rattle.doc_model.specs.Changes.{grid}
use Rattle.doc_model.specs.Rows.{insert_rows}
use Rattle.doc_model.specs.ViewEdits.{add, edited}
use Rattle.view_patch.proofs.EditedCells.{becomes, rows_added}
use Rattle.view_patch.proofs.editing.with_rows.Goals as goal

pub returns : goal.returns
returns c =
    let t = c.args.table.now in
    becomes c.rebuilt.result t.id (grid t) c.args.rows.now c.args.columns.now c.in_ok-columns_copy.field-0 t.columns c.in_ok-all.all (insert_rows c.args.rows.now t.rows) (edited (add c.args.rows.now c.args.columns.now) (grid t))
    c.rebuilt.ensures c.in_ok-columns_copy.ensures (c.in_ok-all.ensures ∙ ap (insert_rows c.args.rows.now) (c.into_vec.ensures ∙ c.in_ok-rows_copy.ensures)) (rows_added (grid t) c.requires.table c.args.rows.now c.args.columns.now c.requires.new)
