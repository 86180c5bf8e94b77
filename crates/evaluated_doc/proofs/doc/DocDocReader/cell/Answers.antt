use Rattle.std.proofs.Common.{false, sym, subst, ◌≡◌, Some, None}
use Rattle.std.specs.Option.{MatchOption}
use Rattle.doc_model.specs.Readers.{cell_at}
use Rattle.recalc.specs.Current.{has_formulas}
use Rattle.recalc.specs.Evaluated.{filled, value_of}
use Rattle.recalc.proofs.PlainLemmas.{cell_plain}
use Rattle.evaluated_doc.proofs.doc.DocDocReader.cell.Goals as goal

pub returns-in-None : goal.returns-in-None
returns-in-None g c =
    let s = g.D.DocReader.document c.self.inside.tables in
    let plain : has_formulas s ≡ false = rw c.in-None.is at c.self.invariant.1 in
    subst (λ d. MatchOption c.cell.result (cell_at (filled (g.D.DocReader.document d)) c.args.table.now c.args.column.now c.args.row ≡ None) (λ value. cell_at (filled (g.D.DocReader.document d)) c.args.table.now c.args.column.now c.args.row ≡ Some value.now)) c.self.view_is
    (subst (λ o. MatchOption c.cell.result (o ≡ None) (λ value. o ≡ Some value.now)) (sym (cell_plain (value_of s) s plain c.args.table.now c.args.column.now c.args.row)) c.cell.ensures)
