use Rattle.std.proofs.Common.{◌≡◌, drop}
use Rattle.rename_flow.specs.RuleParts.{claims}
use Rattle.rename_flow.specs.ShownRows.{rows_from}
use Rattle.rename_flow.proofs.rule_parts.claims.Given as goal

-- what is left completes it
abbrev pub invariant-loop-index : goal.invariant-loop-index
invariant-loop-index l =
    claims l.rename l.count (rows_from l.table l.index (drop l.index l.table.rows)) ≡ claims l.rename 0 (rows_from l.table 0 l.table.rows)
