use Rattle.std.proofs.Common.{◌≡◌, false, IfOk, map, subst}
use Rattle.std.specs.Option.{option_copied}
use Rattle.doc_model.specs.Readers.{cell_at}
use Rattle.recalc.specs.Current.{has_formulas}
use Rattle.recalc.specs.Evaluated.{filled}
use Rattle.evaluated_doc.proofs.ValueLemmas.{plain_values}
use Rattle.evaluated_doc.proofs.doc.DocDocReader.cells.Goals as goal

pub returns-in-None : goal.returns-in-None
returns-in-None g c =
    let s = g.D.DocReader.document c.self.inside.tables in
    let plain : has_formulas s ≡ false = rw c.in-None.is at c.self.invariant.1 in
    subst (λ d. IfOk c.cells.result (λ x. map option_copied x.items ≡ map (cell_at (filled (g.D.DocReader.document d)) c.args.table.now c.args.column.now) c.args.rows.now)) c.self.view_is
    (subst (λ told. IfOk c.cells.result (λ x. map option_copied x.items ≡ told)) (plain_values s plain c.args.table.now c.args.column.now c.args.rows.now) c.cells.ensures)

pub returns-in-Some : goal.returns-in-Some
returns-in-Some g c =
    subst (λ d. IfOk c.values_in.result (λ x. map option_copied x.items ≡ map (cell_at (filled (g.D.DocReader.document d)) c.args.table.now c.args.column.now) c.args.rows.now)) c.self.view_is c.values_in.ensures
