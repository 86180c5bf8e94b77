use Rattle.std.proofs.Common.{ℕ, ◌+◌, ◌<◌, get_or}
use Rattle.view_patch.proofs.rows.is_ascending.Given as goal

-- each so far is below the next
abbrev pub invariant-loop-index : goal.invariant-loop-index
invariant-loop-index l = (k : ℕ) → k + 1 < l.index → get_or l.rows k 0 < get_or l.rows (k + 1) 0
