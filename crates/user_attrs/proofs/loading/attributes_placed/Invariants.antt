use Rattle.std.proofs.Common.{◌≡◌, ◌++◌, drop}
use Rattle.user_attrs.specs.Attributes.{attributes_placed}
use Rattle.user_attrs.proofs.loading.attributes_placed.Given as goal

-- what is left completes it
abbrev pub invariant-loop-row : goal.invariant-loop-row
invariant-loop-row g l =
    l.made ++ attributes_placed (g.D.DocReader.document l.tables) (drop l.row-index l.rows)
    ≡ attributes_placed (g.D.DocReader.document l.tables) l.rows
