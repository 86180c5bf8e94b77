use Rattle.std.proofs.Common.{◌≡◌, ◌-◌, drop, length}
use Rattle.recalc.specs.InOrder.{in_order}
use Rattle.recalc.proofs.names.sorted.Given as goal

abbrev pub invariant-loop-taken : goal.invariant-loop-taken
invariant-loop-taken l = l.sorted.items ≡ in_order (drop (length l.names - l.taken) l.names)
