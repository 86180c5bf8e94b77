use Rattle.std.proofs.Common.{sym, subst, ◌≡◌, Some, None}
use Rattle.std.specs.Option.{MatchOption}
use Rattle.recalc.proofs.FilledLemmas.{column_filled}
use Rattle.shot_cells.specs.Places.{seen_at}
use Rattle.shot_cells.proofs.document.ShotDocumentDocReader.column.Goals as goal

pub returns-clause-told : goal.returns-clause-told
returns-clause-told g c =
    let s = g.D.DocReader.document c.args.self.now.tables in
    subst (λ o. MatchOption c.column.result (o ≡ None) (λ column. o ≡ Some column.now)) (sym (column_filled (seen_at c.args.self.now.cells.tables) s c.args.table.now c.args.index))
    c.column.ensures.told
