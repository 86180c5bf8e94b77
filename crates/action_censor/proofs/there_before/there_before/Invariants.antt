use Rattle.std.proofs.Common.{◌≡◌, ℕ, map, nat_eq, take}
use Rattle.std.specs.HashMap.{get}
use Rattle.action_censor.specs.Step.{step_of}
use Rattle.action_censor.specs.Touched.{first_there}
use Rattle.action_censor.proofs.there_before.there_before.Given as goal

-- the steps so far are noted
abbrev pub invariant-loop-step : goal.invariant-loop-step
invariant-loop-step l = (r : ℕ) → get nat_eq l.noted r ≡ first_there (map step_of (take l.step-index l.steps)) l.id r
