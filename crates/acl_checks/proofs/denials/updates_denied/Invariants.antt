use Rattle.std.proofs.Common.{◌≡◌, drop}
use Rattle.acl_checks.specs.BeforeStep.{kept_checks}
use Rattle.acl_checks.specs.Denials.{first_denied}
use Rattle.acl_checks.proofs.denials.updates_denied.Given as goal

-- the rest decides
abbrev pub invariant-loop-row : goal.invariant-loop-row
invariant-loop-row g l =
    first_denied l.ctx (kept_checks (g.D.DocReader.document l.tables) l.table (drop l.row-index l.kept) l.columns)
    ≡ first_denied l.ctx (kept_checks (g.D.DocReader.document l.tables) l.table l.kept l.columns)
