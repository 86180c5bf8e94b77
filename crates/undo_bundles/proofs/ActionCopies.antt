-- A copy of a document action.
use Rattle.std.proofs.Common.{◌≡◌, rules}
use Rattle.std.proofs.lemmas.List.Elements.{same_from_all_zip}
use Rattle.std.specs.List.{each_same}
use Rattle.cell_types.specs.declared.value.CellItem.{CellItem}
use Rattle.cell_types.specs.declared.value.CellValue.{CellValue}
use Rattle.cell_types.specs.declared.value.CellValue.TheVariants.{List, RecSet}
use Rattle.cell_types.specs.contracts.value.CellItemClone as item_clone
use Rattle.cell_types.specs.contracts.value.CellValueClone as value_clone
use Rattle.doc_model.specs.declared.action.DocAction.{DocAction}
use Rattle.doc_model.specs.declared.action.DocAction.TheVariants.{BulkAdd, BulkUpdate, BulkRemove, AddTable}
use Rattle.doc_model.specs.declared.column.CellColumn.{CellColumn}
use Rattle.doc_model.specs.declared.column.ColDef.{ColDef}
use Rattle.doc_model.specs.contracts.action.DocActionClone as action_clone
use Rattle.doc_model.specs.contracts.column.CellColumnClone as column_clone
use Rattle.doc_model.specs.contracts.column.ColDefClone as def_clone

item_copied : (v w : CellItem) → item_clone.TheImpl.ghosts.is_clone v w → w ≡ v
item_copied v w h = search rules

-- a copy is the same value; lists are copied item by item
value_copied : (v w : CellValue) → value_clone.TheImpl.ghosts.is_clone v w → w ≡ v
value_copied (RecSet s) (RecSet t) h =
    let rows : h.1.1.items.items ≡ h.1.0.items.items = each_same h.1.0.items.items h.1.1.items.items h.1.4.0 in
    search rules
value_copied (List s) (List t) h =
    let items : h.1.items.items ≡ h.0.items.items = same_from_all_zip item_clone.TheImpl.ghosts.is_clone h.0.items.items h.1.items.items h.4.0 item_copied in
    search rules
value_copied v w h = search rules

def_copied : (v w : ColDef) → def_clone.TheImpl.ghosts.is_clone v w → w ≡ v
def_copied v w h = search rules

column_copied : (v w : CellColumn) → column_clone.TheImpl.ghosts.is_clone v w → w ≡ v
column_copied v w h =
    let values : h.1.1.items.items ≡ h.1.0.items.items = same_from_all_zip value_clone.TheImpl.ghosts.is_clone h.1.0.items.items h.1.1.items.items h.1.4.0 value_copied in
    search rules

pub action_copied : (v w : DocAction) → action_clone.TheImpl.ghosts.is_clone v w → w ≡ v
action_copied (BulkAdd s t u) (BulkAdd s2 t2 u2) h =
    let rows : h.1.0.1.items.items ≡ h.1.0.0.items.items = each_same h.1.0.0.items.items h.1.0.1.items.items h.1.0.4.0 in
    let columns : h.1.1.1.items.items ≡ h.1.1.0.items.items = same_from_all_zip column_clone.TheImpl.ghosts.is_clone h.1.1.0.items.items h.1.1.1.items.items h.1.1.4.0 column_copied in
    search rules
action_copied (BulkUpdate s t u) (BulkUpdate s2 t2 u2) h =
    let rows : h.1.0.1.items.items ≡ h.1.0.0.items.items = each_same h.1.0.0.items.items h.1.0.1.items.items h.1.0.4.0 in
    let columns : h.1.1.1.items.items ≡ h.1.1.0.items.items = same_from_all_zip column_clone.TheImpl.ghosts.is_clone h.1.1.0.items.items h.1.1.1.items.items h.1.1.4.0 column_copied in
    search rules
action_copied (BulkRemove s t) (BulkRemove s2 t2) h =
    let rows : h.1.1.items.items ≡ h.1.0.items.items = each_same h.1.0.items.items h.1.1.items.items h.1.4.0 in
    search rules
action_copied (AddTable s t u) (AddTable s2 t2 u2) h =
    let columns : h.1.1.1.items.items ≡ h.1.1.0.items.items = same_from_all_zip def_clone.TheImpl.ghosts.is_clone h.1.1.0.items.items h.1.1.1.items.items h.1.1.4.0 def_copied in
    search rules
action_copied v w h = search rules
