use Rattle.std.proofs.Common.{suc, ◌≡◌, ◌<◌, ◌≤◌, ◌+◌, ◌∙◌, ap, arith, length, map, rules, set, subst}
use Rattle.std.proofs.lemmas.List.{length-map}
use Rattle.recalc.specs.Kept.{column_part}
use Rattle.affected_values.specs.Copied.{copied_column}
use Rattle.affected_values.proofs.CarriedLemmas.{as_many, done_all, done_next, done_to}
use Rattle.affected_values.proofs.ExchangedLemmas.{item_within}
use Rattle.affected_values.proofs.carrying.carry_table.Goals as goal

pub carrying-smaller : goal.carrying-smaller
carrying-smaller c =
    let w = c.carrying in
    let within : w.index < length w.table.columns.items = search rules in
    let same : length w.table.columns.items ≡ length c.args.table.now.columns.items = as_many column_part (copied_column c.args.old.now c.args.table.now.id) w.index c.args.table.now.columns.items w.table.columns.items w.invariant.columns in
    omega (arith, within, same)

pub carrying-preserved : goal.carrying-preserved
carrying-preserved c =
    let w = c.carrying in
    let within : w.index < length w.table.columns.items = search rules in
    let more : suc w.index ≡ w.index + 1 = omega arith in
    record {
      named = w.invariant.named;
      columns = subst (λ n. map column_part (set w.table.columns.items w.index c.carry_column.new.column) ≡ done_to (copied_column c.args.old.now c.args.table.now.id) n (map column_part c.args.table.now.columns.items)) more
          (done_next column_part (copied_column c.args.old.now c.args.table.now.id) w.index (map column_part c.args.table.now.columns.items) w.table.columns.items c.index_mut.result.now c.carry_column.new.column w.invariant.columns
          (item_within w.table.columns.items w.index c.index_mut.result.now within c.index_mut.ensures.value)
          (c.in_ok-carry_column.ensures ∙ ap (λ n. copied_column c.args.old.now n (column_part c.index_mut.result.now)) w.invariant.named));
    }

pub returns : goal.returns
returns c =
    let w = c.carrying in
    let past : length w.table.columns.items ≤ w.index = search rules in
    let same : length w.table.columns.items ≡ length c.args.table.now.columns.items = as_many column_part (copied_column c.args.old.now c.args.table.now.id) w.index c.args.table.now.columns.items w.table.columns.items w.invariant.columns in
    let parts : length (map column_part c.args.table.now.columns.items) ≡ length c.args.table.now.columns.items = length-map c.args.table.now.columns.items column_part in
    λ i. record {
      id = w.invariant.named i;
      columns = (w.invariant.columns ∙ done_all (copied_column c.args.old.now c.args.table.now.id) w.index (map column_part c.args.table.now.columns.items) (omega (arith, past, same, parts))) i;
    }
