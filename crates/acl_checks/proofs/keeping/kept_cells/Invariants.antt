use Rattle.std.proofs.Common.{◌≡◌, ◌++◌, drop}
use Rattle.acl_checks.specs.Kept.{kept_cells}
use Rattle.acl_checks.proofs.keeping.kept_cells.Given as goal

-- what is left completes it
abbrev pub invariant-loop-name : goal.invariant-loop-name
invariant-loop-name g l =
    l.cells ++ kept_cells (g.D.DocReader.document l.tables) l.table l.row (drop l.name-index l.names)
    ≡ kept_cells (g.D.DocReader.document l.tables) l.table l.row l.names
