use Rattle.doc_model.specs.Changes.{grid}
use Rattle.doc_model.specs.ViewEdits.{edited, update}
use Rattle.view_patch.proofs.EditedCells.{becomes, values_given}
use Rattle.view_patch.proofs.editing.with_values.Goals as goal

pub returns : goal.returns
returns c =
    let t = c.args.table.now in
    becomes c.rebuilt.result t.id (grid t) c.args.rows.now c.args.columns.now c.in_ok-columns_copy.field-0 t.columns c.in_ok-kept.kept t.rows (edited (update c.args.rows.now c.args.columns.now) (grid t))
    c.rebuilt.ensures c.in_ok-columns_copy.ensures c.in_ok-kept.ensures (values_given (grid t) c.requires.table c.args.rows.now c.args.columns.now)
