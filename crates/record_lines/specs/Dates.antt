-- Where dates stand in document actions.
use Rattle.std.specs.Prelude.{Bool, true, false}
use Rattle.std.specs.List.{list_any}
use Rattle.cell_types.specs.declared.value.CellItem.{CellItem}
use Rattle.cell_types.specs.declared.value.CellItem.TheVariants as one
use Rattle.cell_types.specs.declared.value.CellValue.{CellValue}
use Rattle.cell_types.specs.declared.value.CellValue.TheVariants as value
use Rattle.cell_types.specs.declared.column_type.ColType.{ColType}
use Rattle.cell_types.specs.declared.column_type.ColType.TheVariants.{Date}
use Rattle.doc_model.specs.declared.action.DocAction.{DocAction}
use Rattle.doc_model.specs.declared.action.DocAction.TheVariants.{BulkAdd, BulkUpdate, BulkRemove, AddTable, RemoveTable, RenameTable, AddColumn, RemoveColumn, RenameColumn, ModifyColumn}
use Rattle.doc_model.specs.declared.column.CellColumn.{CellColumn}
use Rattle.doc_model.specs.declared.column.ColDef.{ColDef}

abbrev pub is_date_item : CellItem → Bool
is_date_item (one.Date z) = true
is_date_item _ = false

abbrev pub holds_date : CellValue → Bool
holds_date (value.Date z) = true
holds_date (value.List items) = list_any is_date_item items
holds_date _ = false

abbrev pub column_holds_date : CellColumn → Bool
column_holds_date c = list_any holds_date c.values

abbrev pub is_date_type : ColType → Bool
is_date_type Date = true
is_date_type _ = false

abbrev pub is_date_column : ColDef → Bool
is_date_column c = is_date_type c.info.ty

-- a date or the type of dates stands in the action
abbrev pub has_date : DocAction → Bool
has_date (BulkAdd t rows cs) = list_any column_holds_date cs
has_date (BulkUpdate t rows cs) = list_any column_holds_date cs
has_date (BulkRemove t rows) = false
has_date (AddTable t row cs) = list_any is_date_column cs
has_date (RemoveTable t) = false
has_date (RenameTable t new) = false
has_date (AddColumn t c) = is_date_column c
has_date (RemoveColumn t c) = false
has_date (RenameColumn t c new) = false
has_date (ModifyColumn t c info) = is_date_type info.ty
