-- The words that mark values, and errors by their names.
use Rattle.std.specs.Prelude.{ℕ, List, codes, Option, Some, None, if◌then◌else◌}
use Rattle.std.specs.Str.{bytes_eq}
use Rattle.cell_types.specs.declared.value.ErrKind.{ErrKind}
use Rattle.cell_types.specs.declared.value.ErrKind.TheVariants as kind
use Rattle.action_lines.specs.declared.marks.Mark.{Mark}
use Rattle.action_lines.specs.declared.marks.Mark.TheVariants as mark

-- what stands first in the array of a value
abbrev pub mark_text : Mark → List ℕ
mark_text mark.List = codes "L"
mark_text mark.Date = codes "d"
mark_text mark.Rec = codes "R"
mark_text mark.Rows = codes "r"
mark_text mark.Err = codes "E"
mark_text mark.Censored = codes "C"

abbrev pub mark_from : List ℕ → Option Mark
mark_from t =
    if bytes_eq t (codes "L") then Some mark.List else if bytes_eq t (codes "d") then Some mark.Date
    else if bytes_eq t (codes "R") then Some mark.Rec
    else if bytes_eq t (codes "r") then Some mark.Rows
    else if bytes_eq t (codes "E") then Some mark.Err
    else if bytes_eq t (codes "C") then Some mark.Censored else None

abbrev pub error_from : List ℕ → Option ErrKind
error_from t =
    if bytes_eq t (codes "CircularRefError") then Some kind.Circular
    else if bytes_eq t (codes "ZeroDivisionError") then Some kind.ZeroDivision
    else if bytes_eq t (codes "TypeError") then Some kind.WrongType
    else if bytes_eq t (codes "AttributeError") then Some kind.Attribute
    else if bytes_eq t (codes "KeyError") then Some kind.Key
    else if bytes_eq t (codes "NameError") then Some kind.Name
    else if bytes_eq t (codes "OverflowError") then Some kind.Overflow
    else if bytes_eq t (codes "SyntaxError") then Some kind.Syntax else None
