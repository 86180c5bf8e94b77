use Rattle.std.proofs.Common.{◌≡◌, drop}
use Rattle.acl_checks.specs.Checks.{cell_checks}
use Rattle.acl_checks.specs.Denials.{first_denied}
use Rattle.acl_checks.proofs.denials.cells_denied.Given as goal

-- the rest decides
abbrev pub invariant-loop-column : goal.invariant-loop-column
invariant-loop-column g l =
    first_denied l.ctx (cell_checks l.table (g.W.RowReader.told l.before) (g.W.RowReader.told l.after) (drop l.column-index l.columns))
    ≡ first_denied l.ctx (cell_checks l.table (g.W.RowReader.told l.before) (g.W.RowReader.told l.after) l.columns)
