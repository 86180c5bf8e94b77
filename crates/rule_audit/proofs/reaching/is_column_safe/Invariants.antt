use Rattle.std.proofs.Common.{◌≡◌, drop, map}
use Rattle.rule_audit.specs.Reached.{is_column_safe}
use Rattle.rule_audit.proofs.reaching.is_column_safe.Given as goal

-- the rest decides
abbrev pub invariant-loop-column : goal.invariant-loop-column
invariant-loop-column l =
    is_column_safe l.perm (map (λ c. c.now) (drop l.column-index l.opened)) l.name
    ≡ is_column_safe l.perm (map (λ c. c.now) l.opened) l.name
