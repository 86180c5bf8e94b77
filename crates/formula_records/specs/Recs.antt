-- The tables whose records the value of a formula may hold, told from its tree and the types of
-- columns.
use Rattle.std.specs.Prelude.{ℕ, Bool, cond, List, [], ◌∷◌, Option, Some, None, bytes_eq, codes}
use Rattle.cell_types.specs.declared.column_type.ColType.{ColType}
use Rattle.cell_types.specs.declared.column_type.ColType.TheVariants as ty
use Rattle.formula_parse.specs.declared.operator.BinaryOp.{BinaryOp}
use Rattle.formula_parse.specs.declared.operator.BinaryOp.TheVariants as op
use Rattle.formula_parse.specs.declared.operator.Constant.{Constant}
use Rattle.formula_parse.specs.declared.operator.Constant.TheVariants as con
use Rattle.formula_parse.specs.Lexemes.{is_id}
use Rattle.formula_parse.specs.Tree.{Tree, number, text, constant, dollar, binary, prefix, conditional, parentheses, list, call, attribute, every, lookup, atom, Trees, no_trees, one_more}
use Rattle.formula_records.specs.declared.tables.RecordTables.{RecordTables}
use Rattle.formula_records.specs.declared.tables.RecordTables.TheVariants.{Any, These}
use Rattle.formula_records.specs.RecordTables.{none, only, union}

-- the type of a column, and whether it has a formula
pub record Column : Type 0 where
  pub ty : ColType
  pub is_formula : Bool

-- the column of a table, where it is known
abbrev pub Columns : Type 0
Columns = List ℕ → List ℕ → Option Column

-- what a cell of the type holds: a formula of type Any may come to any record
abbrev pub stored_by : ColType → Bool → RecordTables
stored_by ty.Any formula = cond formula Any none
stored_by k formula = none

-- what its value is as formulas read it
abbrev pub read_by : ColType → Bool → RecordTables
read_by (ty.Ref t) formula = only t
read_by (ty.RefList t) formula = only t
read_by k formula = stored_by k formula

-- the same of a column that may not be known
abbrev pub leads : Option Column → RecordTables
leads None = none
leads (Some d) = read_by d.ty d.is_formula

abbrev pub stored : Option Column → RecordTables
stored None = none
stored (Some d) = stored_by d.ty d.is_formula

-- the attribute of records of these tables
abbrev pub through : Columns → List (List ℕ) → List ℕ → RecordTables
through k [] n = none
through k (t ∷ ts) n = union (leads (k t n)) (through k ts n)

-- and where they may be of any
abbrev pub field_in : Columns → RecordTables → List ℕ → RecordTables
field_in k Any n = Any
field_in k (These ts) n = through k ts n

-- the row's number is no record
abbrev pub field : Columns → RecordTables → List ℕ → RecordTables
field k q n = cond (is_id n) none (field_in k q n)

-- all of them together
abbrev pub all_of : List RecordTables → RecordTables
all_of [] = none
all_of (q ∷ qs) = union q (all_of qs)

-- IF hands out its second or its third argument
abbrev pub by_if : List RecordTables → RecordTables
by_if (c ∷ (p ∷ (q ∷ []))) = union p q
by_if qs = none

-- IFERROR hands out its first argument, or its second
abbrev pub by_if_error : List RecordTables → RecordTables
by_if_error (p ∷ []) = p
by_if_error (p ∷ (q ∷ [])) = union p q
by_if_error qs = none

-- the words of the two
unfoldable pub if_word : List ℕ
if_word = codes "IF"

unfoldable pub if_error_word : List ℕ
if_error_word = codes "IFERROR"

-- what a call gives: no other function hands out records
abbrev pub called : List ℕ → List RecordTables → RecordTables
called n qs =
    cond (bytes_eq n if_word) (by_if qs)
    (cond (bytes_eq n if_error_word) (by_if_error qs) none)

-- what an operator gives
abbrev pub combined : BinaryOp → RecordTables → RecordTables → RecordTables
combined op.Or p q = union p q
combined op.And p q = union p q
combined op.Add p q = union p q
combined o p q = none

-- `rec` is the row itself
abbrev pub constant_recs : List ℕ → Constant → RecordTables
constant_recs own con.Rec = only own
constant_recs own c = none

abbrev mutual
  -- of a formula of a table
  pub recs : Columns → List ℕ → Tree → RecordTables
  recs k own (number n) = none
  recs k own (text s) = none
  recs k own (constant c) = constant_recs own c
  recs k own (dollar n) = field k (only own) n
  recs k own (binary o a b) = combined o (recs k own a) (recs k own b)
  recs k own (prefix o a) = none
  recs k own (conditional a c b) = union (recs k own a) (recs k own b)
  recs k own (parentheses a) = recs k own a
  recs k own (list ts) = all_of (recs_each k own ts)
  recs k own (call n ts) = called n (recs_each k own ts)
  recs k own (attribute a n) = field k (recs k own a) n
  recs k own (every t) = only t
  recs k own (lookup l t ks) = only t
  recs k own (atom a) = none

  -- of each of the formulas
  pub recs_each : Columns → List ℕ → Trees → List RecordTables
  recs_each k own no_trees = []
  recs_each k own (one_more t ts) = recs k own t ∷ recs_each k own ts
