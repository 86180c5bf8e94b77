-- A part of a chain, asked by the places of its rules.
use Rattle.std.specs.Prelude.{ℕ, List, [], ◌∷◌, Option, Some, None}
use Rattle.acl_formula.specs.Asked.{Asked}
use Rattle.acl_formula.specs.declared.permissions.Perm.{Perm}
use Rattle.acl_rules.specs.declared.decision.Decision.{Decision}
use Rattle.acl_rules.specs.Chain.{Part, rules_of}
use Rattle.acl_rules.specs.Decided.{first_answer}
use Rattle.acl_rules.specs.Places.{picked}
use Rattle.acl_rules.specs.RuleBook.{BookRule}

-- an answer, or else another
abbrev pub or_first : Option Decision → Option Decision → Option Decision
or_first None o = o
or_first (Some d) o = Some d

-- what the rule at a place says, where it is of the part
abbrev pub answer_at : Asked → Perm → Part → List BookRule → ℕ → Option Decision
answer_at x p part book place = first_answer x p (rules_of part (picked book (place ∷ [])))

-- what the first rule at these places says that is of the part and decides
abbrev pub first_at : Asked → Perm → Part → List BookRule → List ℕ → Option Decision
first_at x p part book [] = None
first_at x p part book (place ∷ places) =
    or_first (answer_at x p part book place) (first_at x p part book places)
