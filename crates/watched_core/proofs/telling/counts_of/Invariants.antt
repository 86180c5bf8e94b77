use Rattle.std.proofs.Common.{◌≡◌, take}
use Rattle.watched_core.specs.Telling.{counts_of}
use Rattle.watched_core.proofs.telling.counts_of.Given as goal

abbrev pub invariant-loop-place : goal.invariant-loop-place
invariant-loop-place g l = l.counts.items ≡ counts_of l.core.state (take l.place l.watchers)
