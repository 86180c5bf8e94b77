use Rattle.std.proofs.Common.{◌≡◌, ◌-◌, map, length}
use Rattle.recalc.specs.Kept.{table_part}
use Rattle.affected_values.specs.Copied.{copied_table}
use Rattle.affected_values.proofs.CarriedLemmas.{done_to}
use Rattle.affected_values.proofs.carrying.carry_values.Given as goal

abbrev pub invariant-carrying : goal.invariant-carrying
invariant-carrying g l = map table_part l.kept.items ≡ done_to (copied_table l.old) l.index (map table_part l.initial.kept.items)

abbrev pub decreases-carrying : goal.decreases-carrying
decreases-carrying g l = length l.initial.kept.items - l.index
