use Rattle.std.proofs.Common.{◌≡◌, drop}
use Rattle.rename_flow.specs.RuleParts.{attribute_changed, no_changes, with_changes}
use Rattle.rename_flow.specs.ShownRows.{rows_from}
use Rattle.rename_flow.proofs.rule_parts.attribute_changes.Given as goal

-- what is left completes it
abbrev pub invariant-loop-index : goal.invariant-loop-index
invariant-loop-index l =
    with_changes (attribute_changed l.rename) l.changes (rows_from l.table l.index (drop l.index l.rows))
    ≡ with_changes (attribute_changed l.rename) no_changes (rows_from l.table 0 l.rows)
