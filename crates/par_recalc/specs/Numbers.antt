-- Numbers of ids: the first place at which a column has it.
use Rattle.std.specs.Prelude.{ℕ, ◌+◌, cond, List, [], ◌∷◌, ◌++◌, Option, Some, None, option_to_list}
use Rattle.std.specs.Str.{bytes_eq}
use Rattle.par_recalc.specs.declared.plan.ColumnFormula.{ColumnFormula}
use Rattle.par_recalc.specs.Naming.{named}

-- the first place of a column with that id, in columns that stand from one on
abbrev pub number_from : ℕ → List ColumnFormula → List ℕ → Option ℕ
number_from at [] id = None
number_from at (f ∷ fs) id = cond (bytes_eq f.column id) (Some at) (number_from (at + 1) fs id)

-- the number of an id, where a column has it
abbrev pub number_of : List ColumnFormula → List ℕ → Option ℕ
number_of fs id = number_from 0 fs id

-- the numbers of ids, of those that have one
abbrev pub numbers_of : List ColumnFormula → List (List ℕ) → List ℕ
numbers_of fs [] = []
numbers_of fs (id ∷ ids) = option_to_list (number_of fs id) ++ numbers_of fs ids

-- of the ids that a column names
abbrev pub numbers_named : List ColumnFormula → ColumnFormula → List ℕ
numbers_named fs f = numbers_of fs (named f.formula)

-- of the id of a column
abbrev pub own_number : List ColumnFormula → ColumnFormula → Option ℕ
own_number fs f = number_of fs f.column
