use Rattle.std.proofs.Common.{◌≡◌, drop}
use Rattle.action_limits.specs.Updated.{all_updated_at}
use Rattle.action_limits.proofs.moves.after_updates.Given as goal

-- the steps that are left lead to the sums
abbrev pub invariant-loop-step : goal.invariant-loop-step
invariant-loop-step g l =
    all_updated_at (g.D.DocReader.document l.tables) l.sums (drop l.step-index l.steps) ≡ all_updated_at (g.D.DocReader.document l.tables) l.initial.sums l.steps
