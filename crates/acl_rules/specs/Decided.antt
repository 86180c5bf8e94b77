-- Which rule decides a permission, and what it decides.
use Rattle.std.specs.Prelude.{ℕ, Bool, true, false, ◌&&◌, ◌||◌, cond, codes, List, [], ◌∷◌, Option, Some, None, bytes_eq}
use Rattle.acl_formula.specs.Asked.{Asked}
use Rattle.acl_formula.specs.declared.permissions.Perm.{Perm}
use Rattle.acl_formula.specs.declared.permissions.Perm.TheVariants as perm
use Rattle.acl_formula.specs.declared.permissions.PermSet.{PermSet}
use Rattle.acl_formula.specs.declared.truth.RuleTruth.{RuleTruth}
use Rattle.acl_formula.specs.declared.truth.RuleTruth.TheVariants as says
use Rattle.acl_formula.specs.Permissions.{has_perm}
use Rattle.acl_formula.specs.RuleTruths.{rule_truth}
use Rattle.acl_rules.specs.declared.decision.Decision.{Decision}
use Rattle.acl_rules.specs.declared.decision.Decision.TheVariants as decision
use Rattle.acl_rules.specs.declared.rule.Rule.{Rule}
use Rattle.acl_rules.specs.RuleBook.{BookRule}

-- what a rule's formula comes to; a text that is no formula fails
abbrev pub truth_in : Asked → Rule → RuleTruth
truth_in x r = elim r.formula [ None ↦ says.Fails | Some tree ↦ rule_truth x tree ]

-- whether the permission is allowed or denied there
abbrev pub mentions : Perm → PermSet → Bool
mentions p s = has_perm p s.allowed || has_perm p s.denied

-- a rule that fails matches where it denies, and does not where it allows
abbrev pub is_match : Perm → PermSet → RuleTruth → Bool
is_match p s says.True = true
is_match p s says.False = false
is_match p s says.Fails = has_perm p s.denied

-- whether the rule decides the permission
abbrev pub decides : Asked → Perm → Rule → Bool
decides x p r = mentions p r.permissions && is_match p r.permissions (truth_in x r)

-- what the rule decides
abbrev pub answer : Perm → Rule → Decision
answer p r = cond (has_perm p r.permissions.denied)
    (decision.Deny (record { row = r.row })) decision.Allow

-- what the first rule that decides says
abbrev pub first_answer : Asked → Perm → List BookRule → Option Decision
first_answer x p [] = None
first_answer x p (b ∷ rules) =
    cond (decides x p b.rule) (Some (answer p b.rule)) (first_answer x p rules)

-- whether it is the permission to read
abbrev pub is_read : Perm → Bool
is_read perm.R = true
is_read p = false

-- whether the access is there, and this word
abbrev pub is_access : Option (List ℕ) → List ℕ → Bool
is_access None word = false
is_access (Some access) word = bytes_eq access word

-- the rule behind all others: owners and editors may do everything, viewers read
abbrev pub is_allowed_so : Option (List ℕ) → Perm → Bool
is_allowed_so access p =
    is_access access (codes "owners")
    || (is_access access (codes "editors") || (is_access access (codes "viewers") && is_read p))

-- what it decides; it has row 0
abbrev pub built_in : Option (List ℕ) → Perm → Decision
built_in access p =
    cond (is_allowed_so access p) decision.Allow (decision.Deny (record { row = 0 }))

-- the answer of a rule of the chain, or else of the one behind all
abbrev pub or_built_in : Asked → Perm → Option Decision → Decision
or_built_in x p None = built_in x.user.user.access p
or_built_in x p (Some d) = d

-- what is decided of a permission by a chain
abbrev pub decision_in : Asked → Perm → List BookRule → Decision
decision_in x p chain = or_built_in x p (first_answer x p chain)
