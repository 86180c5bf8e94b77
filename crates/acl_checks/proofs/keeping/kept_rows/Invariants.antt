use Rattle.std.proofs.Common.{◌≡◌, map, take}
use Rattle.acl_rules.specs.Reading.{narrowed}
use Rattle.acl_checks.specs.BeforeStep.{kept_row}
use Rattle.acl_checks.specs.Checks.{row_at}
use Rattle.acl_checks.proofs.keeping.kept_rows.Given as goal

abbrev pub invariant-loop-row : goal.invariant-loop-row
invariant-loop-row g l =
    map kept_row l.kept
    ≡ map (λ r. narrowed l.names (row_at (g.D.DocReader.document l.tables) l.table r)) (take l.row-index l.rows)
