use Rattle.std.proofs.Common.{not, ◌&&◌, sym, ap, ◌∙◌}
use Rattle.doc_model.specs.ByIds.{has_id}
use Rattle.doc_model.specs.Document.{table_id}
use Rattle.doc_model.specs.MetadataIds.{is_schema_id}
use Rattle.doc_actions.proofs.ToldLemmas.{record_some}
use Rattle.doc_actions.proofs.table_readers.is_record_table.Goals as goal

pub returns-then-not-is_schema_id : goal.returns-then-not-is_schema_id
returns-then-not-is_schema_id g c =
    let s = g.D.DocReader.document c.args.tables.now in
    c.has_table.ensures
    ∙ ap (λ b. not b && has_id table_id s c.args.table.now) (sym (sym c.is_schema_id.ensures ∙ c.if-not-is_schema_id.true) ∙ ap is_schema_id c.as_str.ensures.value)
    ∙ record_some s c.args.table.now
