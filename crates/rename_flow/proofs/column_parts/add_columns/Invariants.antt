use Rattle.std.proofs.Common.{◌≡◌, drop}
use Rattle.std.specs.Prelude.{filter}
use Rattle.rename_flow.specs.ColumnParts.{is_at, parts_each}
use Rattle.rename_flow.specs.Parts.{with_parts}
use Rattle.rename_flow.proofs.column_parts.add_columns.Given as goal

-- what is left completes it
abbrev pub invariant-loop-column : goal.invariant-loop-column
invariant-loop-column l =
    with_parts l.plan (parts_each l.view l.rename l.table (filter (is_at l.rename l.table l.place) (drop l.column-index l.columns)))
    ≡ with_parts l.fn.plan (parts_each l.view l.rename l.table (filter (is_at l.rename l.table l.place) l.columns))
