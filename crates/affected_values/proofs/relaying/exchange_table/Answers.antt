use Rattle.std.proofs.Common.{◌≡◌, ◌∙◌, sym, ap, subst, Some, map, length, rules}
use Rattle.std.proofs.lemmas.Option.{get_or_from_slice_get}
use Rattle.std.specs.List.{AllByRecursion, position}
use Rattle.std.specs.Str.{bytes_eq}
use Rattle.recalc.specs.declared.kept.KeptTable.{KeptTable}
use Rattle.recalc.specs.Kept.{kept_table_id}
use Rattle.affected_values.specs.Relaid.{HasPlaces, places_in}
use Rattle.recalc.proofs.PlaceLemmas.{IsFirst, position_first}
use Rattle.affected_values.proofs.ExchangedLemmas.{first_item, no_position}
use Rattle.affected_values.proofs.relaying.exchange_table.Goals as goal

pub unreachable-requires : goal.unreachable-requires
unreachable-requires c = no_position kept_table_id c.args.table.now c.args.kept.now.items c.deref.result.now c.requires.there.table c.deref.ensures.value c.requires.there.here c.in_default.ensures

pub exchange_columns-requires-clause-places : goal.exchange_columns-requires-clause-places
exchange_columns-requires-clause-places c =
    let i = c.in-Some.index in
    let first : IsFirst kept_table_id c.args.table.now c.args.kept.now.items i = position_first kept_table_id c.args.table.now c.args.kept.now.items i (ap (position (λ (k : KeptTable). bytes_eq (kept_table_id k) c.args.table.now)) (sym c.deref.ensures.value) ∙ sym c.in-Some.ensures) in
    let here = first_item kept_table_id c.args.table.now c.args.kept.now.items c.requires.there.table c.requires.there.here i first in
    let same : c.index_mut.result.now ≡ c.requires.there.table = c.index_mut.ensures.value ∙ get_or_from_slice_get c.args.kept.now.items i c.requires.there.table _ here in
    subst (λ (k : KeptTable). AllByRecursion (HasPlaces (length c.args.rows.now)) k.columns.items) (sym same) c.requires.there.places

pub exchange_columns-requires-clause-aside : goal.exchange_columns-requires-clause-aside
exchange_columns-requires-clause-aside c =
    let i = c.in-Some.index in
    let first : IsFirst kept_table_id c.args.table.now c.args.kept.now.items i = position_first kept_table_id c.args.table.now c.args.kept.now.items i (ap (position (λ (k : KeptTable). bytes_eq (kept_table_id k) c.args.table.now)) (sym c.deref.ensures.value) ∙ sym c.in-Some.ensures) in
    let here = first_item kept_table_id c.args.table.now c.args.kept.now.items c.requires.there.table c.requires.there.here i first in
    let same : c.index_mut.result.now ≡ c.requires.there.table = c.index_mut.ensures.value ∙ get_or_from_slice_get c.args.kept.now.items i c.requires.there.table _ here in
    subst (λ (k : KeptTable). map (λ v. length v.items) c.args.aside.now.items ≡ map (λ e. places_in (length c.args.others.now) e.is_formula) k.columns.items) (sym same) c.requires.there.aside

pub returns : goal.returns
returns c =
    let i = c.in-Some.index in
    let first : position (λ (k : KeptTable). bytes_eq (kept_table_id k) c.args.table.now) c.args.kept.now.items ≡ Some i = ap (position (λ (k : KeptTable). bytes_eq (kept_table_id k) c.args.table.now)) (sym c.deref.ensures.value) ∙ sym c.in-Some.ensures in
    let here = first_item kept_table_id c.args.table.now c.args.kept.now.items c.requires.there.table c.requires.there.here i (position_first kept_table_id c.args.table.now c.args.kept.now.items i first) in
    let same : c.index_mut.result.now ≡ c.requires.there.table = c.index_mut.ensures.value ∙ get_or_from_slice_get c.args.kept.now.items i c.requires.there.table _ here in
    record {
      index = i;
      was = c.index_mut.result.now;
      is = c.exchange_columns.new.table;
      first = first;
      here = here ∙ ap (λ k. Some k) (sym same);
      named = c.exchange_columns.ensures.named;
      columns = c.exchange_columns.ensures.columns;
      tables = search rules;
    }
