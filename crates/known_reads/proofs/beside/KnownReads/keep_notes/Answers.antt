use Rattle.std.proofs.Common.{ap, subst, refl}
use Rattle.dep_graph.specs.Graph.{IsSet}
use Rattle.dep_graph.specs.Sources.{sources}
use Rattle.dep_graph.proofs.RunLaws.{on_ok}
use Rattle.known_reads.specs.Beside.{Beside}
use Rattle.known_reads.specs.Watched.{IsWatched}
use Rattle.known_reads.proofs.RecordedLemmas.{noted_set}
use Rattle.known_reads.proofs.WatchedLemmas.{others_either, others_kept, others_set, watched_logged}
use Rattle.known_reads.proofs.beside.KnownReads.keep_notes.Goals as goal

pub returns-clause-noted : goal.returns-clause-noted
returns-clause-noted c =
    on_ok c.set_noting.result (λ set s same. noted_set c.args.self.now _ c.args.cell.now c.args.given.now (subst (λ (b : Beside). IsSet b.graph c.set_noting.new.self c.args.cell.now c.args.given.now) c.self.view_is set) (ap (λ (b : Beside). b.stale) c.self.view_is) s same) c.set_noting.ensures.ok

pub returns-clause-watched : goal.returns-clause-watched
returns-clause-watched c =
    let old : Beside = record { graph = c.self.inside.graph; stale = c.self.inside.stale.items; log = c.self.inside.log.items; owed = c.self.inside.owed } in
    let new : Beside = record { graph = c.set_noting.new.self; stale = c.self.inside.stale.items; log = c.set_noting.new.log.items; owed = c.self.inside.owed } in
    subst (λ (b : Beside). IsWatched b new) c.self.view_is
    (watched_logged old new c.args.cell.now (λ d other h. h) refl c.set_noting.ensures.logged
    (others_either c.set_noting.result old.graph new.graph c.args.cell.now c.set_noting.ensures.ok c.set_noting.ensures.err (others_set old.graph new.graph c.args.cell.now (sources c.args.given.now)) (others_kept old.graph new.graph c.args.cell.now)))
