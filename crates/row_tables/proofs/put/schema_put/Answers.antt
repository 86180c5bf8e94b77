use Rattle.std.proofs.Common.{◌≡◌, ◌-◌, take, drop, length, ap, ◌∙◌}
use Rattle.std.proofs.lemmas.List.{take_rest}
use Rattle.doc_model.specs.Document.{Document}
use Rattle.doc_model.specs.MetadataIds.{tables_id, columns_id}
use Rattle.doc_model.specs.Schema.{metadata_table, tables_grid, columns_grid}
use Rattle.row_tables.specs.Back.{with_tables}
use Rattle.row_tables.specs.Steps.{plain_after}
use Rattle.row_tables.proofs.SchemaLaws.{schema_done}
use Rattle.row_tables.proofs.put.schema_put.Goals as goal

pub returns-in-Ok-clause-done : goal.returns-in-Ok-clause-done
returns-in-Ok-clause-done c =
    let s : Document = c.args.tables.now.items in
    let at : c.change_plain.new.tables.items ≡ plain_after c.args.action.now s = c.in_ok-change.ensures.done in
    let all : Document = c.deref.result.now in
    let plain : take (length all - 4) (drop 4 all) ≡ drop 4 (plain_after c.args.action.now s) = take_rest all 4 ∙ ap (drop 4) (c.deref.ensures.value ∙ at) in
    c.swap_schema-schema.ensures.done ∙ ap (with_tables c.in-Ok.after) at
    ∙ schema_done s c.args.action.now c.requires.whole c.requires.schema c.requires.valid c.in-Ok.after
    (c.in-Ok.ensures.tables ∙ ap (λ z. metadata_table tables_id (tables_grid z)) plain) (c.in-Ok.ensures.columns ∙ ap (λ z. metadata_table columns_id (columns_grid z)) plain)
