use Rattle.std.proofs.Common.{subst, sym, rules, ◌∙◌}
use Rattle.std.proofs.lemmas.Option.{get_or_from_slice_get}
use Rattle.recalc.specs.Put.{IsPutInTable, HasPlace}
use Rattle.recalc.proofs.places.put_in_tables.Goals as goal

pub put_in_table-requires : goal.put_in_table-requires
put_in_table-requires c =
    subst (λ x. HasPlace x.columns.items c.args.column c.args.row) (sym (c.index_mut.ensures.value ∙ get_or_from_slice_get c.args.tables.now.items c.args.table c.requires.0 _ c.requires.1)) c.requires.2

pub returns : goal.returns
returns c = record {
  was = c.requires.0;
  is = c.put_in_table.new.table;
  here = c.requires.1;
  put = subst (λ x. IsPutInTable x c.put_in_table.new.table c.args.column c.args.row c.args.value c.put_in_table.result) (c.index_mut.ensures.value ∙ get_or_from_slice_get c.args.tables.now.items c.args.table c.requires.0 _ c.requires.1) c.put_in_table.ensures;
  tables = search rules;
}
