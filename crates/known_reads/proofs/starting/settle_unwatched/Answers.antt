use Rattle.std.proofs.Common.{◌∙◌}
use Rattle.dep_graph.proofs.RunLaws.{on_ok}
use Rattle.known_reads.proofs.StartedLemmas.{walked_same}
use Rattle.known_reads.proofs.starting.settle_unwatched.Goals as goal

pub returns-clause-walked : goal.returns-clause-walked
returns-clause-walked g c =
    let s = g.D.DocReader.document c.args.tables.now in
    on_ok c.settle_cell-done.result (λ spent.
    walked_same s c.args.kept.now.items c.settle_cell-done.new.kept.items c.args.reads.now c.settle_cell-done.new.reads c.watch.new.self c.args.steps.now c.settle_cell-done.new.steps c.watch.ensures.graph c.watch.ensures.stale c.watch.ensures.owed
    (record { further = c.settle_cell-done.ensures.further; recording = c.settle_cell-done.ensures.recording; attempts = spent; owed = c.settle_cell-done.ensures.watched.owed }))
    c.settle_cell-done.ensures.attempts

pub returns-clause-owed : goal.returns-clause-owed
returns-clause-owed g c = c.watch.ensures.owed ∙ c.settle_cell-done.ensures.watched.owed
