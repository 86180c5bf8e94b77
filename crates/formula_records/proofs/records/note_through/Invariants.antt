use Rattle.std.proofs.Common.{◌≡◌, drop}
use Rattle.formula_records.specs.RecordTables.{union}
use Rattle.formula_records.specs.Recs.{through}
use Rattle.formula_records.specs.ShownColumns.{columns_of}
use Rattle.formula_records.proofs.records.note_through.Given as goal

-- what is left completes it
abbrev pub invariant-loop-table : goal.invariant-loop-table
invariant-loop-table l =
    union l.found (through (columns_of l.view) (drop l.table-index l.table-items) l.name)
    ≡ union l.fn.found (through (columns_of l.view) l.table-items l.name)
