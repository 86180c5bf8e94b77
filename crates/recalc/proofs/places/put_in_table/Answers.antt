use Rattle.std.proofs.Common.{refl, subst, rules, ◌∙◌}
use Rattle.std.proofs.lemmas.Option.{get_or_from_slice_get}
use Rattle.recalc.specs.Put.{IsPutInColumn}
use Rattle.recalc.proofs.places.put_in_table.Goals as goal

pub returns : goal.returns
returns c = record {
  named = refl;
  was = c.requires.0;
  is = c.put_in_column.new.column;
  here = c.requires.1;
  put = subst (λ x. IsPutInColumn x c.put_in_column.new.column c.args.row c.args.value c.put_in_column.result) (c.index_mut.ensures.value ∙ get_or_from_slice_get c.args.table.now.columns.items c.args.column c.requires.0 _ c.requires.1) c.put_in_column.ensures;
  columns = search rules;
}
