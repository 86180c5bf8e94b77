-- The text of a value, as formulas and the conversion to texts show it.
use Rattle.std.specs.Prelude.{ℕ, ℤ, Bool, true, false, List, [], ◌∷◌, ◌++◌, map, length, nat_le, codes, Option, Some, None, if◌then◌else◌}
use Rattle.std.specs.Fmt.{decimal, signed_decimal}
use Rattle.cell_types.specs.declared.value.ErrKind.{ErrKind}
use Rattle.cell_types.specs.declared.value.ErrKind.TheVariants as err
use Rattle.cell_types.specs.declared.value.CellItem.{CellItem}
use Rattle.cell_types.specs.declared.value.CellItem.TheVariants as item
use Rattle.cell_types.specs.declared.value.CellValue.{CellValue}
use Rattle.cell_types.specs.declared.value.CellValue.TheVariants as value
use Rattle.cell_types.specs.TextBound.{text_bound}

-- True or False
abbrev pub bool_text : Bool → List ℕ
bool_text true = codes "True"
bool_text false = codes "False"

-- d86400
abbrev pub date_text : ℤ → List ℕ
date_text seconds = codes "d" ++ signed_decimal seconds

-- People[3]
abbrev pub row_text : List ℕ → ℕ → List ℕ
row_text table row = table ++ codes "[" ++ decimal row ++ codes "]"

-- each part after a comma and a space
abbrev pub after_commas : List (List ℕ) → List ℕ
after_commas [] = []
after_commas (p ∷ ps) = codes ", " ++ p ++ after_commas ps

-- the parts with a comma and a space between them
abbrev pub comma_joined : List (List ℕ) → List ℕ
comma_joined [] = []
comma_joined (p ∷ ps) = p ++ after_commas ps

-- the text of an item in a list: a text stands between quotes, without escapes
abbrev pub item_text : CellItem → List ℕ
item_text item.Null = codes "None"
item_text (item.Int n) = signed_decimal n
item_text (item.Bool b) = bool_text b
item_text (item.Text t) = codes "'" ++ t ++ codes "'"
item_text (item.Date n) = date_text n
item_text (item.Rec r) = row_text r.table r.row

-- an error by the name that a cell shows
abbrev pub err_text : ErrKind → List ℕ
err_text err.Circular = codes "CircularRefError"
err_text err.ZeroDivision = codes "ZeroDivisionError"
err_text err.WrongType = codes "TypeError"
err_text err.Attribute = codes "AttributeError"
err_text err.Key = codes "KeyError"
err_text err.Name = codes "NameError"
err_text err.Overflow = codes "OverflowError"
err_text err.Syntax = codes "SyntaxError"

-- the text of a value
abbrev pub value_text : CellValue → List ℕ
value_text value.Null = codes "None"
value_text (value.Int n) = signed_decimal n
value_text (value.Bool b) = bool_text b
value_text (value.Text t) = t
value_text (value.Date n) = date_text n
value_text (value.Rec r) = row_text r.table r.row
value_text (value.RecSet s) = s.table
    ++ codes "[[" ++ comma_joined (map decimal s.rows) ++ codes "]]"
value_text (value.List items) = codes "[" ++ comma_joined (map item_text items) ++ codes "]"
value_text (value.Err e) = err_text e
value_text value.Censored = codes "Censored"

-- the text of a value, where it is no longer than a text in a cell may be
abbrev pub text_within_bound : CellValue → Option (List ℕ)
text_within_bound v =
    if nat_le (length (value_text v)) text_bound then Some (value_text v) else None
