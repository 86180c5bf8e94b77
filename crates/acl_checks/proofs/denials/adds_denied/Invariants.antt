use Rattle.std.proofs.Common.{◌≡◌, drop}
use Rattle.acl_checks.specs.Checks.{add_checks}
use Rattle.acl_checks.specs.Denials.{first_denied}
use Rattle.acl_checks.proofs.denials.adds_denied.Given as goal

-- the rest decides
abbrev pub invariant-loop-row : goal.invariant-loop-row
invariant-loop-row g l =
    first_denied l.ctx (add_checks (g.D.DocReader.document l.tables) l.table (drop l.row-index l.rows) l.columns)
    ≡ first_denied l.ctx (add_checks (g.D.DocReader.document l.tables) l.table l.rows l.columns)
