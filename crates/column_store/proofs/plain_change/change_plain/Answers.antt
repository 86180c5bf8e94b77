use Rattle.std.proofs.Common.{◌≡◌, true, refl, subst}
use Rattle.doc_model.specs.declared.action.DocAction.TheVariants.{RemoveTable}
use Rattle.doc_model.specs.Valid.{valid}
use Rattle.row_tables.proofs.SchemaLaws.{named_there, not_new}
use Rattle.column_store.proofs.plain_change.change_plain.Goals as goal

pub remove_table-requires-clause-there : goal.remove_table-requires-clause-there
remove_table-requires-clause-there c =
    named_there c.args.tables.now.items (RemoveTable c.in-RemoveTable.table) refl refl (subst (λ a. valid c.args.tables.now.items a ≡ true) c.in-RemoveTable.is c.requires.valid)

pub change_table-requires : goal.change_table-requires
change_table-requires c = record {
  whole = c.requires.whole;
  valid = c.requires.valid;
  there = named_there c.args.tables.now.items c.args.action.now c.requires.schema (not_new c.args.action.now c.in_default.not-AddTable) c.requires.valid;
  schema = c.requires.schema;
}
