-- What a user may read under the rules in force.
use Rattle.std.specs.Prelude.{ℕ, Bool, List, Option, Some, None, option_map}
use Rattle.std.specs.List.{list_any}
use Rattle.acl_formula.specs.Asked.{Asked}
use Rattle.acl_formula.specs.RuleRow.{RuleRow}
use Rattle.acl_formula.specs.declared.permissions.Perm.TheVariants as perm
use Rattle.acl_formula.specs.declared.user_info.UserInfo.{UserInfo}
use Rattle.acl_rules.specs.declared.decision.Ctx.{Ctx}
use Rattle.acl_rules.specs.Chain.{chain_of, of_column, rules_of}
use Rattle.acl_rules.specs.Decided.{decision_in, first_answer, mentions}
use Rattle.acl_rules.specs.RuleBook.{BookRule}
use Rattle.acl_reading.specs.Walk.{allows, is_shown_by, without_row}

-- a user and a row that is read
abbrev pub reading_row : UserInfo → RuleRow → Asked
reading_row u row = record { user = u; before = Some row; after = None }

-- whether a table without columns is shown: by its chain
abbrev pub is_bare_shown : Ctx → List ℕ → Bool
is_bare_shown x table = is_shown_by x.user (chain_of x.book (Some table) None)

-- whether a column is shown: by its chain
abbrev pub is_column_shown : Ctx → List ℕ → List ℕ → Bool
is_column_shown x table column = is_shown_by x.user (chain_of x.book (Some table) (Some column))

-- whether a column's formula is shown: where its schema may be changed
abbrev pub is_formula_shown : Ctx → List ℕ → List ℕ → Bool
is_formula_shown x table column =
    allows (decision_in (without_row x.user) perm.S (chain_of x.book (Some table) (Some column)))

-- whether a row may be read in a column, or by the table's chain
abbrev pub is_cell_shown : Ctx → List ℕ → Option (List ℕ) → RuleRow → Bool
is_cell_shown x table column row =
    allows (decision_in (reading_row x.user row) perm.R (chain_of x.book (Some table) column))

-- what the rules that list the column decide of its cell in the row
abbrev pub own_answer : Ctx → List ℕ → List ℕ → RuleRow → Option Bool
own_answer x table column row =
    option_map allows
    (first_answer (reading_row x.user row) perm.R (rules_of (of_column table column) x.book))

-- whether the rule says something of reading
abbrev pub tells_of_reading : BookRule → Bool
tells_of_reading b = mentions perm.R b.rule.permissions

-- whether a rule about reading lists the column
abbrev pub has_own_rules : Ctx → List ℕ → List ℕ → Bool
has_own_rules x table column = list_any tells_of_reading (rules_of (of_column table column) x.book)
