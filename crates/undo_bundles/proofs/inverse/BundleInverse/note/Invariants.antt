use Rattle.std.proofs.Common.{◌≡◌, ◌++◌, map, length}
use Rattle.undo_bundles.specs.InverseSteps.{marked}
use Rattle.undo_bundles.proofs.inverse.BundleInverse.note.Given as goal

abbrev pub invariant-loop-action : goal.invariant-loop-action
invariant-loop-action g l =
    map (marked l.direct) l.actions.items ++ l.self ≡ map (marked l.direct) l.initial.actions.items ++ l.initial.self

abbrev pub decreases-loop-action : goal.decreases-loop-action
decreases-loop-action g l = length l.actions.items
