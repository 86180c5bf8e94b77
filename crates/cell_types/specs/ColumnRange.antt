-- Which kinds of values a column of a type may hold.
use Rattle.std.specs.Prelude.{◌≡◌, Bool, true, false, ◌||◌}
use Rattle.cell_types.specs.declared.column_type.ColType.{ColType}
use Rattle.cell_types.specs.declared.column_type.ColType.TheVariants as ty
use Rattle.cell_types.specs.declared.value.CellValue.{CellValue}
use Rattle.cell_types.specs.declared.value.CellValue.TheVariants as value
use Rattle.cell_types.specs.Conversion.{fit}

abbrev pub is_null : CellValue → Bool
is_null value.Null = true
is_null v = false

abbrev pub is_int : CellValue → Bool
is_int (value.Int n) = true
is_int v = false

abbrev pub is_bool : CellValue → Bool
is_bool (value.Bool b) = true
is_bool v = false

abbrev pub is_date : CellValue → Bool
is_date (value.Date n) = true
is_date v = false

abbrev pub is_list : CellValue → Bool
is_list (value.List items) = true
is_list v = false

-- a text, an error or a censored value, which stand in columns of each type
abbrev pub is_anywhere : CellValue → Bool
is_anywhere (value.Text t) = true
is_anywhere (value.Err e) = true
is_anywhere value.Censored = true
is_anywhere v = false

-- the kinds by type
abbrev pub is_in_range : ColType → CellValue → Bool
is_in_range ty.Any v = true
is_in_range ty.Text v = is_anywhere v || is_null v
is_in_range ty.Int v = is_anywhere v || (is_null v || is_int v)
is_in_range ty.Bool v = is_anywhere v || is_bool v
is_in_range ty.Date v = is_anywhere v || (is_null v || is_date v)
is_in_range (ty.Ref t) v = is_anywhere v || is_int v
is_in_range (ty.RefList t) v = is_anywhere v || (is_null v || is_list v)

-- what conversion gives is of a kind of the type
abbrev pub FitIsInRange : Type 0
FitIsInRange = (type : ColType) (v : CellValue) → is_in_range type (fit type v) ≡ true
