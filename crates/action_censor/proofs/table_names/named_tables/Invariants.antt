use Rattle.std.proofs.Common.{◌≡◌, [], map, drop}
use Rattle.action_censor.specs.Step.{step_of}
use Rattle.action_censor.specs.Touched.{tables_told, with_names}
use Rattle.action_censor.proofs.table_names.named_tables.Given as goal

-- the names so far, with those that are left
abbrev pub invariant-loop-step : goal.invariant-loop-step
invariant-loop-step l = with_names l.names.items (tables_told (map step_of (drop l.step-index l.steps))) ≡ with_names [] (tables_told (map step_of l.steps))
