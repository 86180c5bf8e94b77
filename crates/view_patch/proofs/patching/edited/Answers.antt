use Rattle.std.proofs.Common.{[], true, ◌≡◌, refl, sym, subst}
use Rattle.std.specs.Result.{IfOk}
use Rattle.doc_model.specs.ByIds.{has_id, put_by_id}
use Rattle.doc_model.specs.Changes.{grid}
use Rattle.doc_model.specs.ViewEdits.{add_column, edited, modify_column, shown_id}
use Rattle.doc_model.proofs.Choices.{not_true}
use Rattle.view_patch.specs.Acts.{act, act_fits}
use Rattle.view_patch.proofs.EditedCells.{becomes, column_added, column_modified}
use Rattle.view_patch.proofs.patching.edited.Goals as goal

pub returns-in-AddColumn : goal.returns-in-AddColumn
returns-in-AddColumn c =
    let t = c.args.table.now in
    let d = c.in-AddColumn.column in
    let columns = put_by_id shown_id d t.columns in
    let r = c.with_column.result in
    subst (λ a. IfOk r (λ s. s ≡ act a t)) (sym c.in-AddColumn.is)
    (becomes r t.id (grid t) [] [] columns columns t.rows t.rows (edited (add_column d) (grid t)) c.with_column.ensures refl refl
    (column_added (grid t) c.requires.table d (not_true (has_id shown_id t.columns d.id) (subst (λ a. act_fits a t ≡ true) c.in-AddColumn.is c.requires.fits))))

pub returns-in-ModifyColumn : goal.returns-in-ModifyColumn
returns-in-ModifyColumn c =
    let t = c.args.table.now in
    let d = c.in-ModifyColumn.column in
    let columns = put_by_id shown_id d t.columns in
    let r = c.with_column-in-ModifyColumn.result in
    subst (λ a. IfOk r (λ s. s ≡ act a t)) (sym c.in-ModifyColumn.is)
    (becomes r t.id (grid t) [] [] columns columns t.rows t.rows (edited (modify_column d) (grid t)) c.with_column-in-ModifyColumn.ensures refl refl
    (column_modified (grid t) c.requires.table d (subst (λ a. act_fits a t ≡ true) c.in-ModifyColumn.is c.requires.fits)))
