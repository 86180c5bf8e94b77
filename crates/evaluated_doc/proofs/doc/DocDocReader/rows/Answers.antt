use Rattle.std.proofs.Common.{sym, subst, ◌≡◌, Some, None}
use Rattle.std.specs.Option.{MatchOption}
use Rattle.doc_model.specs.Readers.{rows_at}
use Rattle.recalc.specs.Evaluated.{value_of}
use Rattle.recalc.proofs.FilledLemmas.{rows_filled}
use Rattle.evaluated_doc.proofs.doc.DocDocReader.rows.Goals as goal

pub returns-clause-told : goal.returns-clause-told
returns-clause-told g c =
    let s = g.D.DocReader.document c.args.self.now in
    subst (λ o. MatchOption c.rows.result (o ≡ None) (λ rows. o ≡ Some rows.now)) (sym (rows_filled (value_of s) s c.args.table.now))
    (subst (λ d. MatchOption c.rows.result (rows_at (g.D.DocReader.document d) c.args.table.now ≡ None) (λ rows. rows_at (g.D.DocReader.document d) c.args.table.now ≡ Some rows.now)) c.self.view_is c.rows.ensures.told)
