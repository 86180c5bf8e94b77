use Rattle.std.proofs.Common.{◌≡◌, ◌++◌, ◌∷◌, [], refl, sym, ap, subst, inr, ◌∙◌}
use Rattle.cell_types.specs.declared.cell.CellId.{CellId}
use Rattle.known_reads.specs.Beside.{Beside}
use Rattle.known_reads.specs.Watched.{IsWatched}
use Rattle.known_reads.proofs.WatchedLemmas.{others_none, stale_last, watched_logged}
use Rattle.known_reads.proofs.beside.KnownReads.add_stale.Goals as goal

pub returns-clause-watched : goal.returns-clause-watched
returns-clause-watched c =
    let old : Beside = record { graph = c.self.inside.graph; stale = c.self.inside.stale.items; log = c.self.inside.log.items; owed = c.self.inside.owed } in
    let new : Beside = record { graph = c.self.inside.graph; stale = c.push_reserved.new.self.items; log = c.note.new.log.items; owed = c.self.inside.owed } in
    subst (λ (b : Beside). IsWatched b new) c.self.view_is
    (watched_logged old new c.args.cell.now (stale_last old new c.args.cell.now c.in_ok-note.ensures.ok (c.push_reserved.ensures.items ∙ ap (λ l. l ++ c.in_ok-copy.copy ∷ []) c.in_ok-reserve.ensures.items ∙ ap (λ (d : CellId). c.self.inside.stale.items ++ d ∷ []) c.in_ok-copy.ensures)) refl (inr c.in_ok-note.ensures.ok)
    (others_none c.self.inside.graph c.args.cell.now))
