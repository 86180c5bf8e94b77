-- Where nothing can be denied: no rule is in force, and the one behind all others allows all.
use Rattle.std.specs.Prelude.{◌≡◌, Bool, true, codes, ◌&&◌, ◌||◌, List, None}
use Rattle.acl_rules.specs.declared.decision.Ctx.{Ctx}
use Rattle.acl_rules.specs.Decided.{is_access}
use Rattle.acl_rules.specs.RuleBook.{has_no_rules}
use Rattle.acl_checks.specs.Checks.{Check}
use Rattle.acl_checks.specs.Denials.{first_denied}

-- whether no check can be denied
abbrev pub are_unchecked : Ctx → Bool
are_unchecked x =
    has_no_rules x.book
    && (is_access x.user.user.access (codes "owners")
    || is_access x.user.user.access (codes "editors"))

-- in such a context no check is denied
unfoldable pub UncheckedLaw : Type 0
UncheckedLaw =
    (x : Ctx) (checks : List Check) → are_unchecked x ≡ true → first_denied x checks ≡ None
