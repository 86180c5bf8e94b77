-- Laws of conversion and of decimal texts.
use Rattle.std.specs.Prelude.{◌≡◌, ℕ, ℤ, Bool, true, false, ◌&&◌, List, nat_le, Some, bytes_eq}
use Rattle.std.specs.List.{list_all, list_any}
use Rattle.std.specs.Fmt.{signed_decimal}
use Rattle.cell_types.specs.declared.column_type.ColType.{ColType}
use Rattle.cell_types.specs.declared.column_type.ColType.TheVariants as ty
use Rattle.cell_types.specs.declared.value.CellItem.{CellItem}
use Rattle.cell_types.specs.declared.value.CellItem.TheVariants as item
use Rattle.cell_types.specs.declared.value.CellValue.{CellValue}
use Rattle.cell_types.specs.declared.value.CellValue.TheVariants as value
use Rattle.cell_types.specs.Conversion.{default_value, fit}
use Rattle.cell_types.specs.Decimal.{fits_64_bits, decimal_of}

-- 32 bits hold it
abbrev pub fits_32_bits : ℕ → Bool
fits_32_bits n = nat_le n 4294967295

-- 64 bits hold the whole number or the date, and 32 bits the row
abbrev pub item_has_sizes : CellItem → Bool
item_has_sizes item.Null = true
item_has_sizes (item.Int n) = fits_64_bits n
item_has_sizes (item.Bool b) = true
item_has_sizes (item.Text t) = true
item_has_sizes (item.Date n) = fits_64_bits n
item_has_sizes (item.Rec r) = fits_32_bits r.row

-- 64 bits hold each whole number and date, 32 bits each row: so it is with every value in memory
abbrev pub has_sizes : CellValue → Bool
has_sizes value.Null = true
has_sizes (value.Int n) = fits_64_bits n
has_sizes (value.Bool b) = true
has_sizes (value.Text t) = true
has_sizes (value.Date n) = fits_64_bits n
has_sizes (value.Rec r) = fits_32_bits r.row
has_sizes (value.RecSet s) = list_all fits_32_bits s.rows
has_sizes (value.List items) = list_all item_has_sizes items
has_sizes (value.Err e) = true
has_sizes value.Censored = true

-- a set of rows of the table, row 0 among them
abbrev pub names_row_zero : List ℕ → CellValue → Bool
names_row_zero t (value.RecSet s) = bytes_eq s.table t && list_any (λ r. nat_le r 0) s.rows
names_row_zero t v = false

-- what converts to a list with row 0, which a second conversion shows as a text
abbrev pub is_exception : ColType → CellValue → Bool
is_exception (ty.RefList t) v = names_row_zero t v
is_exception type v = false

-- converting twice is converting once
abbrev pub TwiceIsOnce : Type 0
TwiceIsOnce =
    (type : ColType) (v : CellValue) → has_sizes v ≡ true → is_exception type v ≡ false
    → fit type (fit type v) ≡ fit type v

-- whether the value is an error
abbrev pub is_error : CellValue → Bool
is_error (value.Err e) = true
is_error _ = false

-- converting makes no error
abbrev pub NoErrorIsMade : Type 0
NoErrorIsMade =
    (type : ColType) (v : CellValue) → is_error v ≡ false → is_error (fit type v) ≡ false

-- the default of a type is a value of the type
abbrev pub DefaultFits : Type 0
DefaultFits = (type : ColType) → fit type (default_value type) ≡ default_value type

-- the text of a whole number says that number
abbrev pub DecimalReadsBack : Type 0
DecimalReadsBack = (z : ℤ) → fits_64_bits z ≡ true → decimal_of (signed_decimal z) ≡ Some z
