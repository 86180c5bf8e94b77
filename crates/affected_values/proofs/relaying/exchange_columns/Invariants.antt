use Rattle.std.proofs.Common.{◌≡◌, ◌≤◌, ◌-◌, length}
use Rattle.affected_values.proofs.ExchangedLemmas.{AreExchangedTo}
use Rattle.affected_values.proofs.relaying.exchange_columns.Given as goal

abbrev pub invariant-exchanging : goal.invariant-exchanging
invariant-exchanging l = record {
  named : l.table.id ≡ l.initial.table.id;
  index : l.index ≤ length l.initial.table.columns.items;
  columns : AreExchangedTo l.rows l.others l.index l.initial.table.columns.items l.initial.aside.items l.table.columns.items l.aside.items;
}

abbrev pub decreases-exchanging : goal.decreases-exchanging
decreases-exchanging l = length l.initial.table.columns.items - l.index
