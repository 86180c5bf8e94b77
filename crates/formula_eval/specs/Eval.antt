-- The value of a formula over a reader, with its reads in order.
use Rattle.std.specs.Prelude.{ℕ, ◌+◌, pos, Bool, false, ◌&&◌, ◌==◌, cond, nat_lt, List, [], ◌∷◌, length, codes, bytes_eq}
use Rattle.cell_types.specs.declared.value.CellValue.{CellValue}
use Rattle.cell_types.specs.declared.value.CellValue.TheVariants as value
use Rattle.cell_types.specs.declared.value.ErrKind.TheVariants as err
use Rattle.cell_types.specs.declared.value.RowRef.{RowRef}
use Rattle.formula_parse.specs.Tree.{Tree, number, text, constant, dollar, binary, prefix, conditional, parentheses, list, call, attribute, every, lookup, atom, Trees, no_trees, one_more, Keys, no_keys, one_key}
use Rattle.value_ops.specs.Numbers.{in_64_bits}
use Rattle.formula_eval.specs.Reader.{Reader}
use Rattle.formula_eval.specs.Run.{Out, gives, raises, Run, out_of, done, seq}
use Rattle.formula_eval.specs.Attribute.{attribute_of, listed, field_of}
use Rattle.formula_eval.specs.Operator.{combined, turned, chosen, constant_value}
use Rattle.formula_eval.specs.Function.{function_of}
use Rattle.formula_eval.specs.Call.{called, argument}
use Rattle.formula_eval.specs.Lookup.{KeyForm, looked_up, given, all_rows}

-- the word of a key that looks into lists
unfoldable pub contains_word : List ℕ
contains_word = codes "CONTAINS"

-- how many there are
abbrev pub count_of : Trees → ℕ
count_of no_trees = 0
count_of (one_more t ts) = count_of ts + 1

-- whether the expression of a key is a call of CONTAINS with one argument
abbrev pub is_containing : Tree → Bool
is_containing (call n ts) = bytes_eq n contains_word && (count_of ts == 1)
is_containing _ = false

-- what is known of a key before its value
abbrev pub form_of : List ℕ → Tree → KeyForm
form_of n t = record { column = n; contains = is_containing t }

-- and of all keys
abbrev pub forms_of : Keys → List KeyForm
forms_of no_keys = []
forms_of (one_key n t ks) = form_of n t ∷ forms_of ks

abbrev mutual
  -- the formula's value at a row, and its reads in order
  pub ev : Reader → RowRef → Tree → Run CellValue
  ev reader at (number n) = done (out_of (in_64_bits (pos n)))
  ev reader at (text s) = done (gives (value.Text s))
  ev reader at (constant c) = done (gives (constant_value at c))
  ev reader at (dollar n) = attribute_of reader n (value.Rec at)
  ev reader at (binary o a b) = combined o (ev reader at a) (ev reader at b)
  ev reader at (prefix o a) = turned o (ev reader at a)
  ev reader at (conditional a c b) = chosen (ev reader at c) (ev reader at a) (ev reader at b)
  ev reader at (parentheses a) = ev reader at a
  ev reader at (list ts) = listed (ev_each reader at ts)
  ev reader at (call n ts) = called (function_of n) (count_of ts) (ev_each reader at ts)
  ev reader at (attribute a n) = field_of reader n (ev reader at a)
  ev reader at (every t) = all_rows reader t
  ev reader at (lookup k t ks) = given k t (looked_up reader t (forms_of ks) (ev_keys reader at ks))
  ev reader at (atom a) = done (raises err.Syntax)

  -- each of the formulas, none of them run so far
  pub ev_each : Reader → RowRef → Trees → List (Run CellValue)
  ev_each reader at no_trees = []
  ev_each reader at (one_more t ts) = ev reader at t ∷ ev_each reader at ts

  -- each value of the keys
  pub ev_keys : Reader → RowRef → Keys → List (Run CellValue)
  ev_keys reader at no_keys = []
  ev_keys reader at (one_key n t ks) =
      cond (is_containing t) (argument (ev_arguments reader at t) 0) (ev reader at t)
      ∷ ev_keys reader at ks

  -- the arguments of a call
  pub ev_arguments : Reader → RowRef → Tree → List (Run CellValue)
  ev_arguments reader at (call n ts) = ev_each reader at ts
  ev_arguments reader at _ = []

-- the value of a key
abbrev pub ev_key : Reader → RowRef → Tree → Run CellValue
ev_key reader at t = cond (is_containing t) (argument (ev_arguments reader at t) 0) (ev reader at t)

-- how many items or rows the value of a formula has at most
unfoldable pub result_bound : ℕ
result_bound = 10000

-- whether a value has more
abbrev pub is_too_long : CellValue → Bool
is_too_long (value.List is) = nat_lt result_bound (length is)
is_too_long (value.RecSet s) = nat_lt result_bound (length s.rows)
is_too_long v = false

-- the value of a whole formula, where it is not too long
abbrev pub as_result : CellValue → Out CellValue
as_result v = cond (is_too_long v) (raises err.Overflow) (gives v)

-- the whole formula
abbrev pub evaluated : Reader → RowRef → Tree → Run CellValue
evaluated reader at f = seq (ev reader at f) (λ v. done (as_result v))
