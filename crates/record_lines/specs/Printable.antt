-- Which document actions read back from what is printed of them.
use Rattle.std.specs.Prelude.{ℕ, Bool, true, ◌&&◌, List, map, length}
use Rattle.std.specs.List.{list_all}
use Rattle.cell_types.specs.declared.value.CellItem.{CellItem}
use Rattle.cell_types.specs.declared.value.CellItem.TheVariants as one
use Rattle.cell_types.specs.declared.value.CellValue.{CellValue}
use Rattle.cell_types.specs.declared.value.CellValue.TheVariants as value
use Rattle.doc_model.specs.declared.action.DocAction.{DocAction}
use Rattle.doc_model.specs.declared.action.DocAction.TheVariants.{BulkAdd, BulkUpdate, BulkRemove, AddTable, RemoveTable, RenameTable, AddColumn, RemoveColumn, RenameColumn, ModifyColumn}
use Rattle.doc_model.specs.declared.column.CellColumn.{CellColumn}
use Rattle.doc_model.specs.WellFormed.{are_by_id, have_values}
use Rattle.action_lines.specs.Numbers.{is_int, is_row}
use Rattle.action_lines.specs.Values.{has_name_length}
use Rattle.record_lines.specs.Columns.{unnamed}
use Rattle.record_lines.specs.Infos.{is_type, is_column}
use Rattle.record_lines.specs.DocActions.{named_table}

-- numbers fit their bits, and tables have names
abbrev pub fits_item : CellItem → Bool
fits_item one.Null = true
fits_item (one.Int z) = is_int z
fits_item (one.Bool b) = true
fits_item (one.Text t) = true
fits_item (one.Date z) = is_int z
fits_item (one.Rec r) = has_name_length r.table && is_row r.row

abbrev pub fits_value : CellValue → Bool
fits_value value.Null = true
fits_value (value.Int z) = is_int z
fits_value (value.Bool b) = true
fits_value (value.Text t) = true
fits_value (value.Date z) = is_int z
fits_value (value.Rec r) = has_name_length r.table && is_row r.row
fits_value (value.RecSet s) = has_name_length s.table && list_all is_row s.rows
fits_value (value.List items) = list_all fits_item items
fits_value (value.Err e) = true
fits_value value.Censored = true

abbrev pub fits_column : CellColumn → Bool
fits_column c = has_name_length c.id && list_all fits_value c.values

-- columns stand by id, each with one value for each row
abbrev pub are_cells : List ℕ → List CellColumn → Bool
are_cells rows cs =
    (list_all is_row rows && list_all fits_column cs)
    && (are_by_id (map unnamed cs) && have_values (length rows) (map unnamed cs))

-- what the action says behind its table
abbrev pub fits_behind : DocAction → Bool
fits_behind (BulkAdd t rows cs) = are_cells rows cs
fits_behind (BulkUpdate t rows cs) = are_cells rows cs
fits_behind (BulkRemove t rows) = list_all is_row rows
fits_behind (AddTable t row cs) = is_row row && list_all is_column cs
fits_behind (RemoveTable t) = true
fits_behind (RenameTable t new) = has_name_length new
fits_behind (AddColumn t c) = is_column c
fits_behind (RemoveColumn t c) = has_name_length c
fits_behind (RenameColumn t c new) = has_name_length c && has_name_length new
fits_behind (ModifyColumn t c info) = has_name_length c && is_type info.ty

-- names have 1 to 64 characters, numbers fit their bits, and cells stand as they are printed
abbrev pub is_printable : DocAction → Bool
is_printable a = has_name_length (named_table a) && fits_behind a
