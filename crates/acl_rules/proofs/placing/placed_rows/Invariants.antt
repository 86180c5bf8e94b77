use Rattle.std.proofs.Common.{◌≡◌, map, take}
use Rattle.acl_rules.specs.Placing.{placed}
use Rattle.acl_rules.proofs.placing.placed_rows.Given as goal

abbrev pub invariant-loop-row : goal.invariant-loop-row
invariant-loop-row g l =
    l.made.items ≡ map (placed (g.D.DocReader.document l.tables)) (take l.row-index l.rows)
