use Rattle.std.proofs.Common.{suc, ◌≡◌, ◌<◌, ◌≤◌, ◌+◌, ◌∙◌, ap, arith, length, map, rules, set, subst}
use Rattle.std.proofs.lemmas.List.{length-map}
use Rattle.recalc.specs.Kept.{table_part}
use Rattle.affected_values.specs.Copied.{copied_table}
use Rattle.affected_values.proofs.CarriedLemmas.{as_many, carried, done_all, done_next, done_to}
use Rattle.affected_values.proofs.ExchangedLemmas.{item_within}
use Rattle.affected_values.proofs.carrying.carry_values.Goals as goal

pub carrying-smaller : goal.carrying-smaller
carrying-smaller g c =
    let w = c.carrying in
    let within : w.index < length w.kept.items = search rules in
    let same : length w.kept.items ≡ length c.in_ok-kept.kept.items = as_many table_part (copied_table c.args.old.now) w.index c.in_ok-kept.kept.items w.kept.items w.invariant in
    omega (arith, within, same)

pub carrying-preserved : goal.carrying-preserved
carrying-preserved g c =
    let w = c.carrying in
    let within : w.index < length w.kept.items = search rules in
    let more : suc w.index ≡ w.index + 1 = omega arith in
    subst (λ n. map table_part (set w.kept.items w.index c.carry_table.new.table) ≡ done_to (copied_table c.args.old.now) n (map table_part c.in_ok-kept.kept.items)) more
    (done_next table_part (copied_table c.args.old.now) w.index (map table_part c.in_ok-kept.kept.items) w.kept.items c.index_mut.result.now c.carry_table.new.table w.invariant
    (item_within w.kept.items w.index c.index_mut.result.now within c.index_mut.ensures.value) c.in_ok-carry_table.ensures)

pub returns : goal.returns
returns g c =
    let w = c.carrying in
    let past : length w.kept.items ≤ w.index = search rules in
    let same : length w.kept.items ≡ length c.in_ok-kept.kept.items = as_many table_part (copied_table c.args.old.now) w.index c.in_ok-kept.kept.items w.kept.items w.invariant in
    let parts : length (map table_part c.in_ok-kept.kept.items) ≡ length c.in_ok-kept.kept.items = length-map c.in_ok-kept.kept.items table_part in
    λ s from kept. carried s (g.D.DocReader.document c.args.tables.now) c.args.action.now c.args.old.now w.kept.items from kept
    (w.invariant ∙ done_all (copied_table c.args.old.now) w.index (map table_part c.in_ok-kept.kept.items) (omega (arith, past, same, parts)) ∙ ap (map (copied_table c.args.old.now)) c.in_ok-kept.ensures)
