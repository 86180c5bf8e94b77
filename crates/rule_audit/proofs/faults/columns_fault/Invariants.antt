use Rattle.std.proofs.Common.{◌≡◌, drop, map}
use Rattle.rule_audit.specs.Closed.{columns_fault}
use Rattle.rule_audit.proofs.faults.columns_fault.Given as goal

-- the rest decides
abbrev pub invariant-loop-column : goal.invariant-loop-column
invariant-loop-column l =
    columns_fault l.ctx (map (λ c. c.now) l.opened) l.table (drop l.column-index l.columns)
    ≡ columns_fault l.ctx (map (λ c. c.now) l.opened) l.table l.columns
