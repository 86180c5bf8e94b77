use Rattle.std.proofs.Common.{sym, subst, ◌≡◌, Some, None}
use Rattle.std.specs.Option.{MatchOption}
use Rattle.doc_model.specs.Readers.{column_at}
use Rattle.recalc.specs.Evaluated.{value_of}
use Rattle.recalc.proofs.FilledLemmas.{column_filled}
use Rattle.evaluated_doc.proofs.doc.DocDocReader.column.Goals as goal

pub returns-clause-told : goal.returns-clause-told
returns-clause-told g c =
    let s = g.D.DocReader.document c.args.self.now in
    subst (λ o. MatchOption c.column.result (o ≡ None) (λ column. o ≡ Some column.now)) (sym (column_filled (value_of s) s c.args.table.now c.args.index))
    (subst (λ d. MatchOption c.column.result (column_at (g.D.DocReader.document d) c.args.table.now c.args.index ≡ None) (λ column. column_at (g.D.DocReader.document d) c.args.table.now c.args.index ≡ Some column.now)) c.self.view_is c.column.ensures.told)
