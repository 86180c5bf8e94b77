-- The rules of a document in their order, each with what it is about.
use Rattle.std.specs.Prelude.{ℕ, Bool, true, false, ◌==◌, cond, List, [], ◌∷◌, map, Option}
use Rattle.acl_rules.specs.declared.resource.Resource.{Resource}
use Rattle.acl_rules.specs.declared.rule.Rule.{Rule}

-- a rule with what it is about; about nothing, it is never asked
pub record BookRule : Type 0 where
  pub rule : Rule
  pub resource : Option Resource

-- rules beside resources
abbrev pub paired : List Rule → List (Option Resource) → List BookRule
paired [] resources = []
paired (r ∷ rules) [] = []
paired (r ∷ rules) (q ∷ resources) = record { rule = r; resource = q } ∷ paired rules resources

-- the rules alone
abbrev pub rules_in : List BookRule → List Rule
rules_in book = map (λ (b : BookRule). b.rule) book

-- what they are about
abbrev pub resources_in : List BookRule → List (Option Resource)
resources_in book = map (λ (b : BookRule). b.resource) book

-- what the author of the rule in that row wrote beside it; nothing, where there is none
abbrev pub memo_of : List Rule → ℕ → List ℕ
memo_of [] row = []
memo_of (r ∷ rules) row = cond (r.row == row) r.memo (memo_of rules row)

-- whether there is no rule
abbrev pub has_no_rules : List BookRule → Bool
has_no_rules [] = true
has_no_rules (b ∷ book) = false
