use Rattle.std.proofs.Common.{◌≡◌, drop}
use Rattle.action_limits.specs.Capped.{all_moved_at}
use Rattle.action_limits.proofs.moves.after_steps.Given as goal

-- the steps that are left lead to the sums
abbrev pub invariant-loop-step : goal.invariant-loop-step
invariant-loop-step g l =
    all_moved_at (g.D.DocReader.document l.tables) l.sums (drop l.step-index l.steps) ≡ all_moved_at (g.D.DocReader.document l.tables) l.initial.sums l.steps
