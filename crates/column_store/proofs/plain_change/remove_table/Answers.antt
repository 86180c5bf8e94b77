use Rattle.std.proofs.Common.{◌≡◌, OnOk, subst, sym}
use Rattle.row_tables.proofs.SchemaLaws.{taken_found}
use Rattle.doc_model.specs.ByIds.{AreDistinct}
use Rattle.doc_model.specs.Document.{table_id}
use Rattle.column_store.proofs.plain_change.remove_table.Goals as goal

pub returns-clause-done : goal.returns-clause-done
returns-clause-done c =
    subst (λ z. OnOk c.take_table.result (c.take_table.new.tables.items ≡ z))
    (taken_found c.args.tables.now.items c.deref.result.now c.args.id.now c.found_index-index.result c.requires.distinct c.deref.ensures.value c.found_index-index.ensures.within c.found_index-index.ensures.found)
    c.take_table.ensures.done

pub found_index-index-requires-clause-distinct : goal.found_index-index-requires-clause-distinct
found_index-index-requires-clause-distinct c = subst (AreDistinct table_id) (sym c.deref.ensures.value) c.requires.distinct
