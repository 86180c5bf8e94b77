use Rattle.std.proofs.Common.{sym, subst, ◌∙◌}
use Rattle.dep_graph.specs.Graph.{Graph}
use Rattle.recalc.specs.Evaluated.{sheet_of}
use Rattle.affected_search.specs.ExactNotes.{HasNotes}
use Rattle.known_reads.specs.Watched.{AreBefore}
use Rattle.known_reads.proofs.BesideLemmas.{exact_reads}
use Rattle.known_reads.proofs.KnownLemmas.{at_err}
use Rattle.known_reads.proofs.PuttingLemmas.{laid_noted}
use Rattle.known_reads.proofs.WatchedLemmas.{are_before, but_same}
use Rattle.known_reads.proofs.refreshing.refresh_recording.Goals as goal

pub refresh_noting-requires-clause-reads : goal.refresh_noting-requires-clause-reads
refresh_noting-requires-clause-reads g c = but_same (g.D.DocReader.document c.args.tables.now) c.args.reads.now c.watch.new.self c.args.cells.items c.watch.ensures.graph c.watch.ensures.stale c.requires.reads

pub refresh_noting-requires-clause-none : goal.refresh_noting-requires-clause-none
refresh_noting-requires-clause-none g c = c.watch.ensures.stale ∙ c.requires.none

pub returns-in-Ok-clause-reads : goal.returns-in-Ok-clause-reads
returns-in-Ok-clause-reads g c =
    let s = g.D.DocReader.document c.args.tables.now in
    let last = c.take_before-before.new.self in
    exact_reads s last (c.take_before-before.ensures.stale ∙ c.in-Ok.ensures.stale)
    (c.take_before-before.ensures.owed ∙ c.refresh_noting.ensures.watched.owed ∙ c.watch.ensures.owed ∙ c.requires.owed)
    (subst (λ (gr : Graph). HasNotes gr (sheet_of s)) (sym c.take_before-before.ensures.graph) c.in-Ok.ensures.reads)

pub returns-in-Ok-clause-before : goal.returns-in-Ok-clause-before
returns-in-Ok-clause-before g c =
    let s = g.D.DocReader.document c.args.tables.now in
    subst (AreBefore s c.args.reads.now c.args.cells.items) (sym c.take_before-before.ensures.were)
    (are_before s c.args.reads.now c.watch.new.self c.refresh_noting.new.reads c.args.cells.items c.watch.ensures.graph c.watch.ensures.log c.refresh_noting.ensures.watched c.in-Ok.ensures.reads c.in-Ok.ensures.gone)

pub returns-in-Err-clause-laid : goal.returns-in-Err-clause-laid
returns-in-Err-clause-laid g c = λ s exact.
    laid_noted s c.args.reads.now c.watch.new.self c.refresh_noting.new.reads c.lay_noted.new.self exact c.watch.ensures.graph c.watch.ensures.log c.watch.ensures.owed c.refresh_noting.ensures.watched
    c.lay_noted.ensures.graph c.lay_noted.ensures.stale c.lay_noted.ensures.owed

pub returns-in_err-room-clause-laid : goal.returns-in_err-room-clause-laid
returns-in_err-room-clause-laid g c = at_err c.from_residual.result (λ s exact. exact_reads s c.args.reads.now exact.none exact.owed exact.each)
