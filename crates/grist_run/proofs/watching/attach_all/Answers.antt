use Rattle.std.proofs.Common.{rules, ◌++◌, ap}
use Rattle.std.proofs.lemmas.List.{reverse-reverse}
use Rattle.grist_run.specs.Watching.{numbered_from}
use Rattle.grist_run.proofs.watching.attach_all.Goals as goal

pub loop-one-init : goal.loop-one-init
loop-one-init g c = record {
  core = search rules;
  count = search rules;
  watching = rw c.reverse.ensures.items (ap (λ l. c.args.watched.now.watching ++ numbered_from (λ w. record { taken = g.W.Watcher.taken w; refused_from = g.W.Watcher.refused_from w; faults = g.W.Watcher.faults w }) c.args.watched.now.attached l) (reverse-reverse c.args.watchers.items));
}
