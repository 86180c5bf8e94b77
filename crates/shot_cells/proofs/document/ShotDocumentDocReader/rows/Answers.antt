use Rattle.std.proofs.Common.{sym, subst, ◌≡◌, Some, None}
use Rattle.std.specs.Option.{MatchOption}
use Rattle.recalc.proofs.FilledLemmas.{rows_filled}
use Rattle.shot_cells.specs.Places.{seen_at}
use Rattle.shot_cells.proofs.document.ShotDocumentDocReader.rows.Goals as goal

pub returns-clause-told : goal.returns-clause-told
returns-clause-told g c =
    let s = g.D.DocReader.document c.args.self.now.tables in
    subst (λ o. MatchOption c.rows.result (o ≡ None) (λ rows. o ≡ Some rows.now)) (sym (rows_filled (seen_at c.args.self.now.cells.tables) s c.args.table.now))
    c.rows.ensures.told
