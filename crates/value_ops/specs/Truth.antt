-- Which values are true.
use Rattle.std.specs.Prelude.{pos, Bool, true, false, not, ◌==◌, List, [], ◌∷◌}
use Rattle.std.specs.Ordering.{int_eq}
use Rattle.cell_types.specs.declared.value.CellValue.{CellValue}
use Rattle.cell_types.specs.declared.value.CellValue.TheVariants as value

-- whether there is anything in the list
abbrev pub is_some_of : {X : Type 0} → List X → Bool
is_some_of [] = false
is_some_of (x ∷ xs) = true

-- false are None, 0, False, the empty text, list and set of records, and a record of no row
abbrev pub truth_of : CellValue → Bool
truth_of value.Null = false
truth_of (value.Int n) = not (int_eq n (pos 0))
truth_of (value.Bool b) = b
truth_of (value.Text t) = is_some_of t
truth_of (value.Date n) = true
truth_of (value.Rec r) = not (r.row == 0)
truth_of (value.RecSet s) = is_some_of s.rows
truth_of (value.List items) = is_some_of items
truth_of (value.Err e) = true
truth_of value.Censored = true
