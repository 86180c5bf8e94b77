-- Which rule denies: that of the first check that is denied.
use Rattle.std.specs.Prelude.{ℕ, List, [], ◌∷◌, Option, Some, None}
use Rattle.acl_formula.specs.Asked.{Asked}
use Rattle.acl_formula.specs.declared.user_info.UserInfo.{UserInfo}
use Rattle.acl_rules.specs.declared.decision.Ctx.{Ctx}
use Rattle.acl_rules.specs.declared.decision.Decision.{Decision}
use Rattle.acl_rules.specs.declared.decision.Decision.TheVariants as decision
use Rattle.acl_rules.specs.Chain.{chain_of}
use Rattle.acl_rules.specs.Decided.{decision_in}
use Rattle.acl_checks.specs.Checks.{Check}

-- whom and what rows the rules are asked about
abbrev pub asked_in : UserInfo → Check → Asked
asked_in u c = record { user = u; before = c.before; after = c.after }

-- what the rules decide of a check
abbrev pub decided : Ctx → Check → Decision
decided x c = decision_in (asked_in x.user c) c.perm (chain_of x.book c.table c.column)

-- the row of the rule that denies, or else what is behind
abbrev pub denial_or : Decision → Option ℕ → Option ℕ
denial_or decision.Allow behind = behind
denial_or (decision.Deny r) behind = Some r.row

-- the row of the rule that denies the first of the checks that are denied
abbrev pub first_denied : Ctx → List Check → Option ℕ
first_denied x [] = None
first_denied x (c ∷ checks) = denial_or (decided x c) (first_denied x checks)
