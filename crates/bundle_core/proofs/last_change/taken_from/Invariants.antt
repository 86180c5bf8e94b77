use Rattle.std.proofs.Common.{◌≡◌, ◌≤◌, ◌+◌, ◌++◌, length, map, reverse, vec_capacity}
use Rattle.bundle_judge.specs.Losses.{cells_told}
use Rattle.bundle_core.proofs.last_change.taken_from.Given as goal

abbrev pub invariant-loop-trace : goal.invariant-loop-trace
invariant-loop-trace g l =
    (map (λ c. c.items) l.lost.items ++ cells_told (reverse l.traces.items) ≡ cells_told (reverse l.initial.traces.items))
    × (length l.lost.items + length l.traces.items ≤ vec_capacity l.lost)

abbrev pub decreases-loop-trace : goal.decreases-loop-trace
decreases-loop-trace g l = length l.traces.items
