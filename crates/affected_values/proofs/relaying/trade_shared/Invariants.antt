use Rattle.std.proofs.Common.{◌≡◌, ◌≤◌, ◌-◌, ◌+◌, length}
use Rattle.recalc.specs.Kept.{held_in}
use Rattle.affected_values.proofs.TradedLemmas.{IsMidway}
use Rattle.affected_values.proofs.relaying.trade_shared.Given as goal

abbrev pub invariant-walking : goal.invariant-walking
invariant-walking l = record {
  places : length l.values.items ≡ length l.rows;
  other_places : length l.others.items ≡ length l.other_rows;
  index : l.index ≤ length l.rows;
  other : l.other ≤ length l.other_rows;
  midway : IsMidway l.rows l.index l.other_rows l.other (held_in l.rows l.initial.values.items) (held_in l.other_rows l.initial.others.items) (held_in l.rows l.values.items) (held_in l.other_rows l.others.items);
}

abbrev pub decreases-walking : goal.decreases-walking
decreases-walking l = (length l.rows - l.index) + (length l.other_rows - l.other)
