use Rattle.std.proofs.Common.{◌≡◌, ◌-◌, map, length}
use Rattle.recalc.specs.Kept.{column_part}
use Rattle.affected_values.specs.Copied.{copied_column}
use Rattle.affected_values.proofs.CarriedLemmas.{done_to}
use Rattle.affected_values.proofs.carrying.carry_table.Given as goal

abbrev pub invariant-carrying : goal.invariant-carrying
invariant-carrying l = record {
  named : l.table.id ≡ l.initial.table.id;
  columns : map column_part l.table.columns.items ≡ done_to (copied_column l.old l.initial.table.id) l.index (map column_part l.initial.table.columns.items);
}

abbrev pub decreases-carrying : goal.decreases-carrying
decreases-carrying l = length l.initial.table.columns.items - l.index
