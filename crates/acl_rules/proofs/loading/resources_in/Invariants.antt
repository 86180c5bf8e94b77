use Rattle.std.proofs.Common.{◌≡◌, map, take}
use Rattle.acl_rules.specs.Loaded.{resource_named}
use Rattle.acl_rules.proofs.loading.resources_in.Given as goal

abbrev pub invariant-loop-row : goal.invariant-loop-row
invariant-loop-row g l =
    l.made.items ≡ map (λ p. resource_named (g.D.DocReader.document l.tables) p.1) (take l.row-index l.rows)
