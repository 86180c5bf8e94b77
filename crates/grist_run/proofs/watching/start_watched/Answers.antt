use Rattle.std.proofs.Common.{◌++◌, ap, ◌∙◌}
use Rattle.watch_box.specs.Watching.{Telling}
use Rattle.grist_run.specs.Watching.{numbered_from}
use Rattle.grist_run.proofs.watching.start_watched.Goals as goal

pub returns-in-Ok-clause-watching : goal.returns-in-Ok-clause-watching
returns-in-Ok-clause-watching g c =
    let told : g.row.W.Denot → Telling = λ w. record { taken = g.W.Watcher.taken w; refused_from = g.W.Watcher.refused_from w; faults = g.W.Watcher.faults w } in
    let ws = c.args.watchers.items in
    c.in-Ok.ensures.added
    ∙ ap (λ l. l ++ numbered_from told c.new-watched.result.attached ws) c.new-watched.ensures.watching
    ∙ ap (λ n. numbered_from told n ws) c.new-watched.ensures.attached
