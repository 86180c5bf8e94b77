use Rattle.std.proofs.Common.{◌≡◌, drop}
use Rattle.rename_flow.specs.ColumnParts.{column_parts}
use Rattle.rename_flow.specs.Parts.{with_parts}
use Rattle.rename_flow.proofs.column_parts.add_tables.Given as goal

-- what is left completes it
abbrev pub invariant-loop-table : goal.invariant-loop-table
invariant-loop-table l =
    with_parts l.plan (column_parts l.view l.rename (drop l.table-index l.view)) ≡ with_parts l.fn.plan (column_parts l.view l.rename l.view)
