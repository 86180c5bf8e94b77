-- Document actions as changes of one table, or of the plain tables.
use Rattle.std.specs.Prelude.{ℕ, ◌+◌, ◌≡◌, Bool, true, false, cond, nat_lt, List, [], ◌∷◌, ⊤}
use Rattle.doc_model.specs.declared.action.DocAction.{DocAction}
use Rattle.doc_model.specs.declared.action.DocAction.TheVariants.{BulkAdd, BulkUpdate, BulkRemove, AddTable, RemoveTable, RenameTable, AddColumn, RemoveColumn, RenameColumn, ModifyColumn}
use Rattle.doc_model.specs.ByIds.{without_id}
use Rattle.doc_model.specs.Records.{add_rows, update_rows, remove_rows}
use Rattle.doc_model.specs.Column.{column_id, start_of}
use Rattle.doc_model.specs.declared.column.ColDef.{ColDef}
use Rattle.doc_model.specs.Grid.{Grid, IsGrid}
use Rattle.doc_model.specs.Rows.{has_no_duplicates, none_in}
use Rattle.doc_model.specs.Document.{Table, table_id, table_row, on_grid, renamed, with_table, put_by_row}
use Rattle.doc_model.specs.Apply.{new_table, add_column, remove_column, with_column, with_name, with_info}

-- whether the action changes rows alone
abbrev pub is_record : DocAction → Bool
is_record (BulkAdd table rows ks) = true
is_record (BulkUpdate table rows ks) = true
is_record (BulkRemove table rows) = true
is_record _ = false

-- the table that the action names
abbrev pub table_named : DocAction → List ℕ
table_named (BulkAdd table rows ks) = table
table_named (BulkUpdate table rows ks) = table
table_named (BulkRemove table rows) = table
table_named (AddTable table row columns) = table
table_named (RemoveTable table) = table
table_named (RenameTable table new) = table
table_named (AddColumn table d) = table
table_named (RemoveColumn table column) = table
table_named (RenameColumn table column new) = table
table_named (ModifyColumn table column info) = table

-- where a record action may be put: a grid, to which new rows come once
abbrev pub adds_new : DocAction → Grid ColDef → Type 0
adds_new (BulkAdd table rows ks) g = (has_no_duplicates rows ≡ true) × (none_in rows g.rows ≡ true)
adds_new _ g = ⊤

abbrev pub ActsOn : DocAction → Grid ColDef → Type 0
ActsOn a g = IsGrid column_id g × adds_new a g

-- what becomes of that table, where it stays
abbrev pub table_change : DocAction → Table → Table
table_change (BulkAdd table rows ks) = on_grid (add_rows column_id start_of rows ks)
table_change (BulkUpdate table rows ks) = on_grid (update_rows column_id rows ks)
table_change (BulkRemove table rows) = on_grid (remove_rows column_id rows)
table_change (RenameTable table new) = renamed new
table_change (AddColumn table d) = on_grid (add_column d)
table_change (RemoveColumn table column) = on_grid (remove_column column)
table_change (RenameColumn table column new) = on_grid (with_column column (with_name new))
table_change (ModifyColumn table column info) = on_grid (with_column column (with_info info))
table_change _ = λ t. t

-- what becomes of the plain tables
abbrev pub plain_after : DocAction → List Table → List Table
plain_after (AddTable table row columns) plain =
    put_by_row table_row (new_table table row columns) plain
plain_after (RemoveTable table) plain = without_id table_id table plain
plain_after a plain = with_table (table_named a) (table_change a) plain

-- the index of the first table with a greater row, or the end
abbrev pub table_index : ℕ → List Table → ℕ
table_index row [] = 0
table_index row (t ∷ plain) = cond (nat_lt row (table_row t)) 0 (table_index row plain + 1)
