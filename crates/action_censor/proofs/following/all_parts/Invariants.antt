use Rattle.std.proofs.Common.{◌≡◌, take}
use Rattle.action_censor.specs.ShownParts.{all_after, all_before}
use Rattle.action_censor.proofs.following.all_parts.Given as goal

-- the parts so far
abbrev pub invariant-loop-table : goal.invariant-loop-table
invariant-loop-table g l =
    (l.parts.before.items ≡ all_before (g.X.Lets.lets l.ctx) (g.D.DocReader.document l.tables) (take l.table-index l.touched))
    × (l.parts.after.items ≡ all_after (g.X.Lets.lets l.ctx) (g.D.DocReader.document l.tables) (take l.table-index l.touched))
