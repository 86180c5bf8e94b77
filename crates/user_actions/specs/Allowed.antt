-- What a document holds where nothing stands against a user action.
use Rattle.std.specs.Prelude.{ℕ, ℤ, Bool, true, ◌&&◌, List}
use Rattle.std.specs.List.{list_all}
use Rattle.cell_types.specs.NameRule.{is_name}
use Rattle.doc_model.specs.declared.column.ColDef.{ColDef}
use Rattle.doc_model.specs.declared.user_action.UserAction.{UserAction}
use Rattle.doc_model.specs.declared.user_action.UserAction.TheVariants.{Add, Update, Remove, AddTable, RemoveTable, RenameTable, AddColumn, RemoveColumn, RenameColumn, ModifyColumn}
use Rattle.doc_model.specs.declared.user_action.UserColumn.{UserColumn}
use Rattle.doc_model.specs.ByIds.{find_id, has_id}
use Rattle.doc_model.specs.Column.{column_id}
use Rattle.doc_model.specs.Document.{Document}
use Rattle.doc_model.specs.Grid.{Grid}
use Rattle.doc_model.specs.Valid.{is_data, passes, record_table, schema_table}
use Rattle.user_actions.specs.Columns.{may_be_new, may_become}
use Rattle.user_actions.specs.Given.{have_no_duplicates, has_base, has_good_id, is_row}

-- whether each is a data column and is given base values
abbrev pub may_give : Grid ColDef → UserColumn → Bool
may_give g k = is_data g k.id && has_base k

abbrev pub may_name : List ℕ → List ℤ → Bool
may_name known rows = have_no_duplicates rows && list_all (is_row known) rows

-- whether the document has what the action names, and the action gives what may be given
abbrev pub is_allowed : Document → UserAction → Bool
is_allowed s (Add table single count has_row_ids ks) = passes (record_table s table) (λ t.
    list_all (may_give t.grid) ks)
is_allowed s (Update table single rows ks) = passes (record_table s table) (λ t.
    may_name t.grid.rows rows && list_all (may_give t.grid) ks)
is_allowed s (Remove table single rows) = passes (record_table s table) (λ t.
    may_name t.grid.rows rows)
is_allowed s (AddTable table cs) =
    is_name table && list_all has_good_id cs && list_all may_be_new cs
is_allowed s (RemoveTable table) = passes (schema_table s table) (λ t. true)
is_allowed s (RenameTable table new) = passes (schema_table s table) (λ t. is_name new)
is_allowed s (AddColumn table c) = passes (schema_table s table) (λ t. is_name c.id && may_be_new c)
is_allowed s (RemoveColumn table column) = passes (schema_table s table) (λ t.
    has_id column_id t.grid.columns column)
is_allowed s (RenameColumn table column new) = passes (schema_table s table) (λ t.
    has_id column_id t.grid.columns column && is_name new)
is_allowed s (ModifyColumn table c) = passes (schema_table s table) (λ t.
    passes (find_id column_id c.id t.grid.columns) (λ d. may_become d.info.is_formula c))
