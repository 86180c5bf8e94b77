-- The kinds of values.
use Rattle.std.specs.Prelude.{Bool, true, false, ◌&&◌}
use Rattle.cell_types.specs.declared.value.CellValue.{CellValue}
use Rattle.cell_types.specs.declared.value.CellValue.TheVariants as value
use Rattle.value_ops.specs.Equality.{is_equal}

-- whether two values are of one kind
abbrev pub is_same_kind : CellValue → CellValue → Bool
is_same_kind value.Null value.Null = true
is_same_kind (value.Int m) (value.Int n) = true
is_same_kind (value.Bool a) (value.Bool b) = true
is_same_kind (value.Text t) (value.Text u) = true
is_same_kind (value.Date m) (value.Date n) = true
is_same_kind (value.Rec r) (value.Rec s) = true
is_same_kind (value.RecSet r) (value.RecSet s) = true
is_same_kind (value.List is) (value.List js) = true
is_same_kind (value.Err d) (value.Err e) = true
is_same_kind value.Censored value.Censored = true
is_same_kind _ _ = false

-- left is right: of one kind, and equal
abbrev pub is_same : CellValue → CellValue → Bool
is_same left right = is_same_kind left right && is_equal left right
