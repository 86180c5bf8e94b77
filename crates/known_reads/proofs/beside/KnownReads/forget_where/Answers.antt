use Rattle.std.proofs.Common.{◌≡◌, false, ap, refl, rules, subst, Result, Ok, Err, OnOk, OnErr}
use Rattle.std.specs.Option.{is_some}
use Rattle.recalc.specs.Evaluated.{formula_at, sheet_of}
use Rattle.known_reads.specs.Beside.{Beside}
use Rattle.known_reads.specs.Known.{KeepsReads}
use Rattle.known_reads.specs.Watched.{IsGoneNoted, IsWatched}
use Rattle.known_reads.proofs.KnownLemmas.{forgotten, reads_kept}
use Rattle.known_reads.proofs.WatchedLemmas.{gone_formula, gone_noted, others_dropped, others_either, others_kept, watched_logged, watched_none}
use Rattle.dep_graph.proofs.RunLaws.{on_ok}
use Rattle.dep_graph.proofs.OfNames.{either_way}
use Rattle.known_reads.proofs.beside.KnownReads.forget_where.Goals as goal

pub returns-clause-plain : goal.returns-clause-plain
returns-clause-plain g c =
    on_ok c.drop_noting.result (λ dropped plain. (forgotten (g.D.DocReader.document c.args.tables.now) c.self.inside.graph c.drop_noting.new.self c.args.cell.now dropped (ap is_some plain)).0) c.drop_noting.ensures.ok

pub returns-clause-keeps : goal.returns-clause-keeps
returns-clause-keeps g c =
    let s = g.D.DocReader.document c.args.tables.now in
    let off : is_some (formula_at s c.args.cell.now) ≡ false = search rules in
    subst (λ (b : Beside). KeepsReads (sheet_of s) b.graph c.drop_noting.new.self) c.self.view_is
    (either_way c.drop_noting.result c.drop_noting.ensures.ok c.drop_noting.ensures.err (λ dropped. (forgotten s c.self.inside.graph c.drop_noting.new.self c.args.cell.now dropped off).1) (reads_kept (sheet_of s) c.self.inside.graph c.drop_noting.new.self))

pub returns-clause-watched : goal.returns-clause-watched
returns-clause-watched g c =
    let old : Beside = record { graph = c.self.inside.graph; stale = c.self.inside.stale.items; log = c.self.inside.log.items; owed = c.self.inside.owed } in
    let new : Beside = record { graph = c.drop_noting.new.self; stale = c.self.inside.stale.items; log = c.drop_noting.new.log.items; owed = c.self.inside.owed } in
    subst (λ (b : Beside). IsWatched b new) c.self.view_is
    (watched_logged old new c.args.cell.now (λ d other h. h) refl c.drop_noting.ensures.logged
    (others_either c.drop_noting.result old.graph new.graph c.args.cell.now c.drop_noting.ensures.ok c.drop_noting.ensures.err (others_dropped old.graph new.graph c.args.cell.now) (others_kept old.graph new.graph c.args.cell.now)))

pub returns-clause-gone : goal.returns-clause-gone
returns-clause-gone g c =
    let s = g.D.DocReader.document c.args.tables.now in
    let old : Beside = record { graph = c.self.inside.graph; stale = c.self.inside.stale.items; log = c.self.inside.log.items; owed = c.self.inside.owed } in
    let new : Beside = record { graph = c.drop_noting.new.self; stale = c.self.inside.stale.items; log = c.drop_noting.new.log.items; owed = c.self.inside.owed } in
    on_ok c.drop_noting.result (λ noted. subst (λ (b : Beside). IsGoneNoted s b new c.args.cell.now) c.self.view_is (gone_noted s old new c.args.cell.now noted)) c.drop_noting.ensures.noted
