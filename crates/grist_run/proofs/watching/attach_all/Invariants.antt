use Rattle.std.proofs.Common.{◌≡◌, ◌+◌, ◌++◌, reverse, vec_len}
use Rattle.grist_run.specs.Watching.{numbered_from}
use Rattle.grist_run.proofs.watching.attach_all.Given as goal

-- the watchers so far, and then those that are left
abbrev pub invariant-loop-one : goal.invariant-loop-one
invariant-loop-one g l = record {
  core : l.watched.core ≡ l.fn.watched.core;
  count : l.watched.attached + vec_len l.watchers ≡ l.fn.watched.attached + vec_len l.fn.watchers;
  watching : l.watched.watching ++ numbered_from (λ w. record { taken = g.W.Watcher.taken w; refused_from = g.W.Watcher.refused_from w; faults = g.W.Watcher.faults w }) l.watched.attached (reverse l.watchers.items)
      ≡ l.fn.watched.watching ++ numbered_from (λ w. record { taken = g.W.Watcher.taken w; refused_from = g.W.Watcher.refused_from w; faults = g.W.Watcher.faults w }) l.fn.watched.attached l.fn.watchers.items;
}

abbrev pub decreases-loop-one : goal.decreases-loop-one
decreases-loop-one g l = vec_len l.watchers
