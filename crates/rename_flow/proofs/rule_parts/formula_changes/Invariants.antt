use Rattle.std.proofs.Common.{◌≡◌, drop}
use Rattle.rename_flow.specs.RuleParts.{formula_changed, no_changes, with_changes}
use Rattle.rename_flow.specs.ShownRows.{rows_from}
use Rattle.rename_flow.proofs.rule_parts.formula_changes.Given as goal

-- what is left completes it
abbrev pub invariant-loop-index : goal.invariant-loop-index
invariant-loop-index l =
    let change = formula_changed l.rename l.abouts l.attributes in
    with_changes change l.changes (rows_from l.table l.index (drop l.index l.rows)) ≡ with_changes change no_changes (rows_from l.table 0 l.rows)
