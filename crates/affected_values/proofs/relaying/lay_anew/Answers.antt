use Rattle.std.proofs.Common.{◌≡◌, ◌∙◌, refl, sym, ap, subst, rules}
use Rattle.doc_model.specs.ByIds.{find_id}
use Rattle.recalc.specs.Kept.{kept_table_id}
use Rattle.affected_values.specs.Relaid.{CanBeLaid, IsTableExchanged}
use Rattle.affected_values.proofs.LaidLemmas.{can_lay, laid_anew}
use Rattle.affected_values.proofs.relaying.lay_anew.Goals as goal

pub exchange_table-requires-clause-there : goal.exchange_table-requires-clause-there
exchange_table-requires-clause-there g c =
    let m = c.requires.moved in
    let id = c.args.table.now in
    let ks = c.args.kept.now.items in
    let others = c.rows_in-others.result.now in
    subst (λ rs. CanBeLaid id rs others ks c.in_ok-columns.columns.items) (sym c.as_slice.ensures.value)
    (can_lay m.0 (g.D.DocReader.document c.args.tables.now) id c.args.rows.items m.1 m.2 ks m.3 others c.rows_in-others.ensures.value c.in_ok-columns.columns.items
    (λ k e. c.in_ok-columns.ensures k (ap (find_id kept_table_id id) c.deref.ensures.value ∙ e)))

pub returns-clause-ok : goal.returns-clause-ok
returns-clause-ok g c = λ s m were kept.
    let id = c.args.table.now in
    let ks = c.args.kept.now.items in
    let others = c.rows_in-others.result.now in
    let named : c.in_ok-named.named ≡ id = search rules in
    laid_anew s (g.D.DocReader.document c.args.tables.now) id c.args.rows.items m were ks kept others c.rows_in-others.ensures.value c.in_ok-columns.columns.items c.exchange_table.new.kept.items
    (record { table = c.in_ok-named.named; rows = c.args.rows; columns = c.exchange_table.new.aside })
    (λ k e. c.in_ok-columns.ensures k (ap (find_id kept_table_id id) c.deref.ensures.value ∙ e))
    (subst (λ rs. IsTableExchanged id rs others ks c.in_ok-columns.columns.items c.exchange_table.new.kept.items c.exchange_table.new.aside.items) c.as_slice.ensures.value c.exchange_table.ensures)
    named refl c.requires.ascending
