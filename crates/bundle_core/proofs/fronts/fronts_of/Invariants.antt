use Rattle.std.proofs.Common.{◌≡◌, map, take}
use Rattle.bundle_core.specs.Fronts.{front_of}
use Rattle.bundle_core.proofs.fronts.fronts_of.Given as goal

abbrev pub invariant-loop-actions : goal.invariant-loop-actions
invariant-loop-actions l = l.fronts.items ≡ map front_of (take l.actions-index l.told)
