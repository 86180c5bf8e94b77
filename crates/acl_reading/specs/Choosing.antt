-- What rules come to before any row is seen.
use Rattle.std.specs.Prelude.{Bool, not, cond, [], ◌∷◌, Option, Some, None}
use Rattle.acl_formula.specs.Asked.{Asked}
use Rattle.acl_formula.specs.RuleRow.{RuleRow}
use Rattle.acl_formula.specs.declared.permissions.Perm.TheVariants as perm
use Rattle.acl_formula.specs.declared.user_info.UserInfo.{UserInfo}
use Rattle.acl_rules.specs.declared.rule.Rule.{Rule}
use Rattle.acl_rules.specs.Decided.{answer, decides}
use Rattle.censored_view.specs.RowTests.{tests_say}
use Rattle.acl_reading.specs.declared.choosing.Choice.{Choice}
use Rattle.acl_reading.specs.declared.choosing.Choice.TheVariants as choice
use Rattle.acl_reading.specs.Walk.{allows, without_row}

-- what a rule decides of reading
abbrev pub rule_reads : Asked → Rule → Option Bool
rule_reads x r = cond (decides x perm.R r) (Some (allows (answer perm.R r))) None

-- what a choice says of a row
abbrev pub choice_says : UserInfo → RuleRow → Choice → Option Bool
choice_says u row choice.Passed = None
choice_says u row (choice.Decided reads) = Some reads
choice_says u row (choice.Asks t) = tests_say u row (t ∷ [])

-- what a rule comes to for all rows, where its formula uses none
abbrev pub choice_for_all : UserInfo → Rule → Bool → Choice
choice_for_all u r denies =
    cond (decides (without_row u) perm.R r) (choice.Decided (not denies)) choice.Passed
