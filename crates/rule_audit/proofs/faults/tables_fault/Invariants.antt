use Rattle.std.proofs.Common.{◌≡◌, drop}
use Rattle.rule_audit.specs.Closed.{tables_fault}
use Rattle.rule_audit.proofs.faults.tables_fault.Given as goal

-- the rest decides
abbrev pub invariant-loop-table : goal.invariant-loop-table
invariant-loop-table l =
    tables_fault l.ctx (drop l.table-index l.tables) ≡ tables_fault l.ctx l.tables
