use Rattle.std.proofs.Common.{◌≡◌, ◌-◌, length, take}
use Rattle.censored_view.specs.Parts.{part}
use Rattle.censored_view.proofs.parts.part_tables.Given as goal

-- the tables so far
abbrev pub invariant-loop-id : goal.invariant-loop-id
invariant-loop-id g l = l.shown.items ≡ part (g.S.Selection.takes l.selection) (g.S.Selection.takes_row l.selection) (g.X.Lets.lets l.ctx) (take l.index (g.D.DocReader.document l.tables))

abbrev pub decreases-loop-id : goal.decreases-loop-id
decreases-loop-id g l = length (g.D.DocReader.document l.tables) - l.index
