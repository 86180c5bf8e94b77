use Rattle.std.proofs.Common.{sym, subst, ap, ◌∙◌}
use Rattle.column_store.specs.Schema.{schema_fits, schema_told}
use Rattle.column_store.proofs.ToldLaws.{table_told}
use Rattle.column_store.proofs.put.table_put.Goals as goal

pub tell_schema-requires : goal.tell_schema-requires
tell_schema-requires c =
    subst (schema_fits c.in_ok-told.told) (sym c.in_ok-change.ensures.done)
    (table_told c.args.tables.now.items c.args.action.now c.requires.whole c.requires.valid c.requires.adds c.in_ok-told.told c.in_ok-told.ensures).0

pub returns-in-Ok-clause-done : goal.returns-in-Ok-clause-done
returns-in-Ok-clause-done c =
    c.in-Ok.ensures.done ∙ ap (schema_told c.in_ok-told.told) c.in_ok-change.ensures.done
    ∙ (table_told c.args.tables.now.items c.args.action.now c.requires.whole c.requires.valid c.requires.adds c.in_ok-told.told c.in_ok-told.ensures).1
