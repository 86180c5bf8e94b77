use Rattle.std.proofs.Common.{suc, ◌≡◌, ◌<◌, ◌≤◌, ◌+◌, arith, length, subst, set, rules}
use Rattle.affected_values.proofs.ExchangedLemmas.{AreExchangedTo, exchanged_all, exchanged_next, item_within, lengths_same, maps_length, next_aside, next_places}
use Rattle.affected_values.proofs.relaying.exchange_columns.Goals as goal

pub index_mut-requires-in-exchanging : goal.index_mut-requires-in-exchanging
index_mut-requires-in-exchanging c =
    let w = c.exchanging in
    let same = lengths_same c.args.rows.now c.args.others.now w.index c.args.table.now.columns.items c.args.aside.now.items w.table.columns.items w.aside.items w.invariant.columns in
    let within : w.index < length w.table.columns.items = search rules in
    let one : length w.table.columns.items ≡ length c.args.table.now.columns.items = same.0 in
    let two : length w.aside.items ≡ length c.args.aside.now.items = same.1 in
    let both : length c.args.aside.now.items ≡ length c.args.table.now.columns.items = maps_length _ _ c.args.aside.now.items c.args.table.now.columns.items c.requires.aside in
    let fits : w.index < length w.aside.items = omega (arith, within, one, two, both) in
    search rules

pub exchange_column-requires-clause-places : goal.exchange_column-requires-clause-places
exchange_column-requires-clause-places c =
    let w = c.exchanging in
    let within : w.index < length w.table.columns.items = search rules in
    next_places c.args.rows.now c.args.others.now w.index c.args.table.now.columns.items c.args.aside.now.items w.table.columns.items w.aside.items c.index_mut.result.now w.invariant.columns
    (item_within w.table.columns.items w.index c.index_mut.result.now within c.index_mut.ensures.value) c.requires.places

pub exchange_column-requires-clause-aside : goal.exchange_column-requires-clause-aside
exchange_column-requires-clause-aside c =
    let w = c.exchanging in
    let within : w.index < length w.table.columns.items = search rules in
    let lengths = lengths_same c.args.rows.now c.args.others.now w.index c.args.table.now.columns.items c.args.aside.now.items w.table.columns.items w.aside.items w.invariant.columns in
    let one : length w.table.columns.items ≡ length c.args.table.now.columns.items = lengths.0 in
    let two : length w.aside.items ≡ length c.args.aside.now.items = lengths.1 in
    let both : length c.args.aside.now.items ≡ length c.args.table.now.columns.items = maps_length _ _ c.args.aside.now.items c.args.table.now.columns.items c.requires.aside in
    let fits : w.index < length w.aside.items = omega (arith, within, one, two, both) in
    next_aside c.args.rows.now c.args.others.now w.index c.args.table.now.columns.items c.args.aside.now.items w.table.columns.items w.aside.items c.index_mut.result.now c.index_mut-in-exchanging.result.now w.invariant.columns
    (item_within w.table.columns.items w.index c.index_mut.result.now within c.index_mut.ensures.value)
    (item_within w.aside.items w.index c.index_mut-in-exchanging.result.now fits c.index_mut-in-exchanging.ensures.value) c.requires.aside

pub exchanging-smaller : goal.exchanging-smaller
exchanging-smaller c =
    let w = c.exchanging in
    let within : w.index < length w.table.columns.items = search rules in
    let same : length w.table.columns.items ≡ length c.args.table.now.columns.items = (lengths_same c.args.rows.now c.args.others.now w.index c.args.table.now.columns.items c.args.aside.now.items w.table.columns.items w.aside.items w.invariant.columns).0 in
    omega (arith, within, same)

pub exchanging-preserved : goal.exchanging-preserved
exchanging-preserved c =
    let w = c.exchanging in
    let within : w.index < length w.table.columns.items = search rules in
    let lengths = lengths_same c.args.rows.now c.args.others.now w.index c.args.table.now.columns.items c.args.aside.now.items w.table.columns.items w.aside.items w.invariant.columns in
    let one : length w.table.columns.items ≡ length c.args.table.now.columns.items = lengths.0 in
    let two : length w.aside.items ≡ length c.args.aside.now.items = lengths.1 in
    let both : length c.args.aside.now.items ≡ length c.args.table.now.columns.items = maps_length _ _ c.args.aside.now.items c.args.table.now.columns.items c.requires.aside in
    let fits : w.index < length w.aside.items = omega (arith, within, one, two, both) in
    let same : length w.table.columns.items ≡ length c.args.table.now.columns.items = (lengths_same c.args.rows.now c.args.others.now w.index c.args.table.now.columns.items c.args.aside.now.items w.table.columns.items w.aside.items w.invariant.columns).0 in
    let more : suc w.index ≡ w.index + 1 = omega arith in
    record {
      named = w.invariant.named;
      index = omega (arith, within, same);
      columns = subst (λ n. AreExchangedTo c.args.rows.now c.args.others.now n c.args.table.now.columns.items c.args.aside.now.items (set w.table.columns.items w.index c.exchange_column.new.column) (set w.aside.items w.index c.exchange_column.new.aside)) more
          (exchanged_next c.args.rows.now c.args.others.now w.index c.args.table.now.columns.items c.args.aside.now.items w.table.columns.items w.aside.items c.index_mut.result.now c.index_mut-in-exchanging.result.now c.exchange_column.new.column c.exchange_column.new.aside w.invariant.columns
          (item_within w.table.columns.items w.index c.index_mut.result.now within c.index_mut.ensures.value)
          (item_within w.aside.items w.index c.index_mut-in-exchanging.result.now fits c.index_mut-in-exchanging.ensures.value) c.exchange_column.ensures);
    }

pub returns-clause-columns : goal.returns-clause-columns
returns-clause-columns c =
    let w = c.exchanging in
    let past : length w.table.columns.items ≤ w.index = search rules in
    let same : length w.table.columns.items ≡ length c.args.table.now.columns.items = (lengths_same c.args.rows.now c.args.others.now w.index c.args.table.now.columns.items c.args.aside.now.items w.table.columns.items w.aside.items w.invariant.columns).0 in
    exchanged_all c.args.rows.now c.args.others.now w.index c.args.table.now.columns.items c.args.aside.now.items w.table.columns.items w.aside.items (omega (arith, past, same)) w.invariant.index
    (maps_length _ _ c.args.aside.now.items c.args.table.now.columns.items c.requires.aside) w.invariant.columns
