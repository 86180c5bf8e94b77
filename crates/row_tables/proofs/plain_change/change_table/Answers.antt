use Rattle.std.proofs.Common.{◌≡◌, set, subst, ap, ◌∙◌, slice_get}
use Rattle.doc_model.specs.ByIds.{find_id}
use Rattle.doc_model.specs.Document.{table_id}
use Rattle.row_tables.specs.Steps.{table_named, table_change}
use Rattle.row_tables.proofs.SchemaLaws.{changed_found}
use Rattle.row_tables.proofs.plain_change.change_table.Goals as goal

pub returns-clause-done : goal.returns-clause-done
returns-clause-done c =
    let index = c.found_index-index.result in
    let found : slice_get c.deref.result.now index ≡ find_id table_id (table_named c.args.action.now) c.deref.result.now
    = subst (λ id. slice_get c.deref.result.now index ≡ find_id table_id id c.deref.result.now) c.table_named.ensures c.found_index-index.ensures.found in
    c.replace_table.ensures.done ∙ ap (set c.args.tables.now.items index) c.in_ok-new.ensures
    ∙ changed_found c.args.tables.now.items c.deref.result.now (table_named c.args.action.now) index c.requires.distinct c.deref.ensures.value c.found_index-index.ensures.within found (table_change c.args.action.now) c.index.result.now c.index.ensures
