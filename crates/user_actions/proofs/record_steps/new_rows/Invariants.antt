use Rattle.std.proofs.Common.{◌≡◌, ◌+◌, ◌-◌, ◌++◌}
use Rattle.user_actions.specs.Steps.{numbers_after}
use Rattle.user_actions.proofs.record_steps.new_rows.Given as goal

-- the rows so far, and those that are to come
abbrev pub invariant-loop-index : goal.invariant-loop-index
invariant-loop-index l =
    l.rows.items ++ numbers_after (l.last + l.index) (l.count - l.index) ≡ numbers_after l.last l.count
