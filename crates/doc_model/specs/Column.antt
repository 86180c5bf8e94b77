-- Columns of a document, and what their cells may hold.
use Rattle.std.specs.Prelude.{ℕ, Bool, true, false, cond, ◌&&◌, ◌||◌, nat_le, List, [], length}
use Rattle.std.specs.List.{list_all}
use Rattle.cell_types.specs.NameRule.{is_name}
use Rattle.cell_types.specs.ColumnRange.{is_null}
use Rattle.cell_types.specs.Conversion.{default_value}
use Rattle.cell_types.specs.declared.column_type.ColType.{ColType}
use Rattle.cell_types.specs.declared.column_type.ColType.TheVariants as type
use Rattle.cell_types.specs.declared.value.CellItem.{CellItem}
use Rattle.cell_types.specs.declared.value.CellItem.TheVariants as item
use Rattle.cell_types.specs.declared.value.CellValue.{CellValue}
use Rattle.cell_types.specs.declared.value.CellValue.TheVariants as value
use Rattle.doc_model.specs.declared.column.ColDef.{ColDef}
use Rattle.doc_model.specs.declared.column.ColInfo.{ColInfo}
use Rattle.doc_model.specs.MetadataIds.{is_metadata_id}

abbrev pub column_id : ColDef → List ℕ
column_id d = d.id

abbrev pub column_row : ColDef → ℕ
column_row d = d.row

-- what a new cell of the column holds
abbrev pub start_of : ColDef → CellValue
start_of d = cond d.info.is_formula value.Null (default_value d.info.ty)

-- whether a text is no longer than texts may be
abbrev pub is_short : List ℕ → Bool
is_short text = nat_le (length text) 65536

-- whether a base cell's list may hold the item
abbrev pub is_base_item : CellItem → Bool
is_base_item (item.Text t) = is_short t
is_base_item (item.Rec r) = false
is_base_item _ = true

-- whether a base cell may hold the value
abbrev pub is_base : CellValue → Bool
is_base value.Null = true
is_base (value.Int n) = true
is_base (value.Bool b) = true
is_base (value.Text t) = is_short t
is_base (value.Date n) = true
is_base (value.Rec r) = false
is_base (value.RecSet rs) = false
is_base (value.List items) = nat_le (length items) 10000 && list_all is_base_item items
is_base (value.Err e) = false
is_base value.Censored = false

-- whether a type's table is named by a name or is a metadata table
abbrev pub is_sound_type : ColType → Bool
is_sound_type (type.Ref t) = is_name t || is_metadata_id t
is_sound_type (type.RefList t) = is_name t || is_metadata_id t
is_sound_type _ = true

abbrev pub is_empty : List ℕ → Bool
is_empty text = nat_le (length text) 0

-- whether the type is sound, the formula is short, and a data column has none
abbrev pub is_sound_info : ColInfo → Bool
is_sound_info info =
    is_sound_type info.ty && is_short info.formula && (info.is_formula || is_empty info.formula)

-- whether the cell may stand in the column: a base value, and Null in a formula column
abbrev pub may_hold : ColDef → CellValue → Bool
may_hold d v = cond d.info.is_formula (is_null v) (is_base v)
