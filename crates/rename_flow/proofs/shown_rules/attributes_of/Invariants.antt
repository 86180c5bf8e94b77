use Rattle.std.proofs.Common.{◌≡◌, ◌++◌, drop}
use Rattle.rename_flow.specs.ShownRows.{rows_from}
use Rattle.rename_flow.specs.ShownRules.{attributes_in}
use Rattle.rename_flow.proofs.shown_rules.attributes_of.Given as goal

-- those so far and those of what is left are all
abbrev pub invariant-loop-index : goal.invariant-loop-index
invariant-loop-index l =
    l.attributes ++ attributes_in (rows_from l.table l.index (drop l.index l.table.rows)) ≡ attributes_in (rows_from l.table 0 l.table.rows)
