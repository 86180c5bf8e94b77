use Rattle.std.proofs.Common.{◌≡◌, ◌<◌, ◌≤◌, true, ℕ}
use Rattle.name_rules.specs.FreeName.{is_taken, numbered}
use Rattle.name_rules.proofs.free_id.free_name.Given as goal

abbrev pub invariant-loop-number : goal.invariant-loop-number
invariant-loop-number l = ((k : ℕ) → 2 ≤ k → k < l.number → is_taken l.taken (numbered l.fn.wanted k) ≡ true)
