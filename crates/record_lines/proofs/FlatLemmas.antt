-- What is printed of a record has no float, and does not nest deep.
use Rattle.std.proofs.Common.{ℕ, List, refl, arith}
use Rattle.doc_model.specs.declared.action.DocAction.{DocAction}
use Rattle.doc_model.specs.declared.action.DocAction.TheVariants.{BulkAdd, BulkUpdate, BulkRemove, AddTable, RemoveTable, RenameTable, AddColumn, RemoveColumn, RenameColumn, ModifyColumn}
use Rattle.doc_model.specs.declared.column.ColDef.{ColDef}
use Rattle.action_lines.specs.Numbers.{row_data}
use Rattle.grist_json.proofs.PlainLemmas.{IsFlat, all_flat, row_flat, columns_flat}
use Rattle.record_lines.specs.Infos.{column_data}
use Rattle.record_lines.specs.Printed.{doc_action_data, record_data}

column_flat : (c : ColDef) → IsFlat 1 (column_data c)
column_flat c = record { whole = refl; low = omega arith }

action_flat : (a : DocAction) → IsFlat 5 (doc_action_data a)
action_flat (BulkAdd t rows cs) =
    let all = all_flat row_data 0 row_flat rows in
    let columns = columns_flat cs in
    record { whole = rw (all.whole, columns.whole) refl; low = omega (arith, all.low, columns.low) }
action_flat (BulkUpdate t rows cs) =
    let all = all_flat row_data 0 row_flat rows in
    let columns = columns_flat cs in
    record { whole = rw (all.whole, columns.whole) refl; low = omega (arith, all.low, columns.low) }
action_flat (BulkRemove t rows) =
    let all = all_flat row_data 0 row_flat rows in
    record { whole = rw all.whole refl; low = omega (arith, all.low) }
action_flat (AddTable t row cs) =
    let all = all_flat column_data 1 column_flat cs in
    record { whole = rw all.whole refl; low = omega (arith, all.low) }
action_flat (RemoveTable t) = record { whole = refl; low = omega arith }
action_flat (RenameTable t new) = record { whole = refl; low = omega arith }
action_flat (AddColumn t c) = record { whole = refl; low = omega arith }
action_flat (RemoveColumn t c) = record { whole = refl; low = omega arith }
action_flat (RenameColumn t c new) = record { whole = refl; low = omega arith }
action_flat (ModifyColumn t c info) = record { whole = refl; low = omega arith }

pub record_flat : (n : ℕ) (actions : List DocAction) → IsFlat 8 (record_data n actions)
record_flat n actions =
    let all = all_flat doc_action_data 5 action_flat actions in
    record { whole = rw all.whole refl; low = omega (arith, all.low) }
