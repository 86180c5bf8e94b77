use Rattle.std.proofs.Common.{◌≡◌, false, rules}
use Rattle.affected_values.proofs.ExchangedLemmas.{exchanged_data}
use Rattle.affected_values.proofs.relaying.exchange_column.Goals as goal

pub returns-else-column : goal.returns-else-column
returns-else-column c =
    let plain : c.args.column.now.is_formula ≡ false = search rules in
    exchanged_data c.args.rows.now c.args.others.now c.args.column.now c.args.aside.now plain c.requires.places c.requires.aside
