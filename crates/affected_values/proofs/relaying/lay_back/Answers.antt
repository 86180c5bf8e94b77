use Rattle.std.proofs.Common.{sym, subst}
use Rattle.affected_values.specs.Relaid.{CanBeLaid, IsTableExchanged}
use Rattle.affected_values.proofs.LaidLemmas.{can_lay_back, laid_back}
use Rattle.affected_values.proofs.relaying.lay_back.Goals as goal

pub exchange_table-requires-clause-there : goal.exchange_table-requires-clause-there
exchange_table-requires-clause-there g c =
    let m = c.requires.moved in
    let ks = c.args.kept.now.items in
    subst (λ rs. CanBeLaid c.args.aside.table c.rows_in-now.result.now rs ks c.args.aside.columns.items) (sym c.as_slice.ensures.value)
    (can_lay_back m.0 (g.D.DocReader.document c.args.tables.now) c.args.aside m.1 m.2 ks m.3 c.rows_in-now.result.now c.rows_in-now.ensures.value)

pub returns : goal.returns
returns g c = λ s m h kept.
    let ks = c.args.kept.now.items in
    laid_back s (g.D.DocReader.document c.args.tables.now) c.args.aside m h ks kept c.rows_in-now.result.now c.rows_in-now.ensures.value c.exchange_table.new.kept.items c.exchange_table.new.aside.items
    (subst (λ rs. IsTableExchanged c.args.aside.table c.rows_in-now.result.now rs ks c.args.aside.columns.items c.exchange_table.new.kept.items c.exchange_table.new.aside.items) c.as_slice.ensures.value c.exchange_table.ensures)
