-- What a column becomes as a user says. What is not said stays as it was.
use Rattle.std.specs.Prelude.{ℕ, Bool, cond, not, ◌&&◌, ◌||◌, List, [], is_some, unwrap_or}
use Rattle.cell_types.specs.declared.column_type.ColType.{ColType}
use Rattle.cell_types.specs.declared.column_type.ColType.TheVariants as type
use Rattle.doc_model.specs.declared.column.ColInfo.{ColInfo}
use Rattle.doc_model.specs.declared.user_action.UserCol.{UserCol}
use Rattle.doc_model.specs.Column.{is_empty, is_short}
use Rattle.user_actions.specs.Infos.{type_or}

-- whether the type is one, where it is given
abbrev pub has_type : UserCol → Bool
has_type c = is_some (type_or type.Any c.ty)

-- the formula that is given, empty where none is
abbrev pub formula_given : UserCol → List ℕ
formula_given c = unwrap_or c.formula []

-- whether it is a formula column then
abbrev pub kind_said : Bool → UserCol → Bool
kind_said was_formula c = unwrap_or c.is_formula was_formula

-- whether a data column or a formula column may become so: no data column is given a formula
abbrev pub may_become : Bool → UserCol → Bool
may_become was_formula c =
    has_type c && is_short (formula_given c)
    && (kind_said was_formula c || is_empty (formula_given c))

-- whether a formula is given that is not empty
abbrev pub gives_formula : UserCol → Bool
gives_formula c = not (is_empty (formula_given c))

-- whether a new column may be so: a formula column where a formula is given
abbrev pub may_be_new : UserCol → Bool
may_be_new c = may_become (gives_formula c) c

abbrev pub type_said : ColType → UserCol → ColType
type_said other c = unwrap_or (type_or other c.ty) other

-- the formula of a column that becomes a data column goes
abbrev pub formula_said : ColInfo → UserCol → List ℕ
formula_said old c =
    unwrap_or c.formula (cond (kind_said old.is_formula c) old.formula [])

-- what a column becomes
abbrev pub info_said : ColInfo → UserCol → ColInfo
info_said old c = record {
  ty = type_said old.ty c;
  is_formula = kind_said old.is_formula c;
  formula = formula_said old c;
}

-- what a new column is where no more is said of it
abbrev pub new_info : UserCol → ColInfo
new_info c = record { ty = type.Any; is_formula = gives_formula c; formula = [] }
