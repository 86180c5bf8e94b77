use Rattle.std.proofs.Common.{sym, subst, ap, ◌∙◌}
use Rattle.column_store.specs.Back.{with_tables}
use Rattle.column_store.specs.Schema.{IsDescribable}
use Rattle.column_store.proofs.AboveLaws.{describable, schema_done}
use Rattle.column_store.proofs.put.schema_put.Goals as goal

pub schema_tables-requires : goal.schema_tables-requires
schema_tables-requires c =
    subst IsDescribable (sym (c.deref.ensures.value ∙ c.in_ok-change.ensures.done)) (describable c.args.tables.now.items c.args.action.now c.requires.whole c.requires.schema c.requires.valid)

pub returns-in-Ok-clause-done : goal.returns-in-Ok-clause-done
returns-in-Ok-clause-done c =
    c.swap_schema-schema.ensures.done ∙ ap (with_tables c.in-Ok.after) c.in_ok-change.ensures.done
    ∙ schema_done c.args.tables.now.items c.args.action.now c.requires.whole c.requires.schema c.requires.valid c.in-Ok.after c.deref.result.now (c.deref.ensures.value ∙ c.in_ok-change.ensures.done) c.in-Ok.ensures.tables c.in-Ok.ensures.columns
