-- What formulas of rules decide of rows, where they were chosen once for all of them.
use Rattle.std.specs.Prelude.{Bool, true, false, not, cond, List, [], ◌∷◌, Option, Some, None}
use Rattle.acl_formula.specs.RuleRow.{RuleRow}
use Rattle.acl_formula.specs.RuleTruths.{rule_truth}
use Rattle.acl_formula.specs.declared.truth.RuleTruth.{RuleTruth}
use Rattle.acl_formula.specs.declared.truth.RuleTruth.TheVariants as says
use Rattle.acl_formula.specs.declared.user_info.UserInfo.{UserInfo}
use Rattle.censored_view.specs.declared.row_tests.RowTest.{RowTest}
use Rattle.censored_view.specs.declared.row_tests.RowTests.{RowTests}

-- whether a formula that comes to this matches: one that fails does where its rule denies
abbrev pub is_match : Bool → RuleTruth → Bool
is_match denies says.True = true
is_match denies says.False = false
is_match denies says.Fails = denies

-- whether a formula matches the row that the user reads
abbrev pub is_matched : UserInfo → RuleRow → RowTest → Bool
is_matched u row t =
    is_match t.denies
    (rule_truth (record { user = u; before = Some row; after = None }) t.formula.now)

-- what the first that matches says
abbrev pub tests_say : UserInfo → RuleRow → List RowTest → Option Bool
tests_say u row [] = None
tests_say u row (t ∷ tests) =
    cond (is_matched u row t) (Some (not t.denies)) (tests_say u row tests)

-- an answer, or else another
abbrev pub or_answer : Option Bool → Option Bool → Option Bool
or_answer None o = o
or_answer (Some b) o = Some b

-- what is answered for a row
abbrev pub answer_of : RowTests → RuleRow → Option Bool
answer_of t row = or_answer (tests_say t.user.now row t.tests.items) t.otherwise
