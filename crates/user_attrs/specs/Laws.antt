-- Which row an attribute finds, and what rules get where they ask for attributes.
use Rattle.std.specs.Prelude.{◌≡◌, ◌≤◌, ℕ, Bool, true, false, cond, List, find, Option, Some, None, bytes_eq}
use Rattle.std.specs.List.{AllByRecursion}
use Rattle.cell_types.specs.declared.value.CellValue.{CellValue}
use Rattle.cell_types.specs.declared.value.CellValue.TheVariants as value
use Rattle.doc_model.specs.declared.user.User.{User}
use Rattle.doc_model.specs.ByIds.{has_id}
use Rattle.doc_model.specs.Column.{column_id}
use Rattle.doc_model.specs.Document.{Document}
use Rattle.doc_model.specs.Readers.{cell_at}
use Rattle.doc_model.specs.Rows.{IsAscending, has}
use Rattle.doc_readers.specs.Parts.{grid_at}
use Rattle.acl_formula.specs.RuleFields.{found_field, is_own, own_field, user_field}
use Rattle.user_attrs.specs.UserInfos.{found_in, holds, row_with, user_info}
use Rattle.user_attrs.specs.declared.attribute_rule.AttributeRule.{AttributeRule}

-- the least of the rows that passes the test; none where none passes
abbrev pub IsLeast : (ℕ → Bool) → List ℕ → Option ℕ → Type 0
IsLeast test rows None = AllByRecursion (λ q. test q ≡ false) rows
IsLeast test rows (Some r) =
    (has rows r ≡ true) × (test r ≡ true) × AllByRecursion (λ q. test q ≡ true → r ≤ q) rows

-- what is found is the least row of the table whose cell in the column equals the value
abbrev pub LeastLaw : Type 0
LeastLaw = (s : Document) (table column : List ℕ) (v : CellValue)
    → IsAscending (grid_at s table).rows
    → IsLeast (λ r. holds v (cell_at s table column r)) (grid_at s table).rows
    (row_with s table column v)

-- nothing is found in a column that the table has not, nor in a table that is not there
abbrev pub AbsentLaw : Type 0
AbsentLaw = (s : Document) (table column : List ℕ) (v : CellValue)
    → has_id column_id (grid_at s table).columns column ≡ false → row_with s table column v ≡ None

-- a field of the row that an attribute finds; there is none where there is no attribute
abbrev pub field_found : Document → User → Option AttributeRule → List ℕ → Option CellValue
field_found s u None m = None
field_found s u (Some a) m = found_field (found_in s u a) m

-- the user's own fields are its own, whatever attributes there are; they have no fields
abbrev pub OwnLaw : Type 0
OwnLaw = (rules : List AttributeRule) (u : User) (s : Document) (n : List ℕ)
    → own_field (user_info rules u s).user n ≡ own_field u n

-- of the attributes with one name the first is asked, whether it found a row or not, and none that
-- is named as one of the user's own fields
abbrev pub FirstLaw : Type 0
FirstLaw = (rules : List AttributeRule) (u : User) (s : Document) (n m : List ℕ)
    → user_field (user_info rules u s) n m
    ≡ cond (is_own n) None (field_found s u (find (λ a. bytes_eq a.name n) rules) m)

-- a field of an attribute that found no row is Null
abbrev pub NullLaw : Type 0
NullLaw = (s : Document) (u : User) (a : AttributeRule) (m : List ℕ)
    → found_in s u a ≡ None → field_found s u (Some a) m ≡ Some value.Null
