use Rattle.std.proofs.Common.{◌≡◌, ◌+◌, drop}
use Rattle.user_actions.proofs.ReferrerLemmas.{referrer_index}
use Rattle.user_actions.proofs.referrers.index_of.Given as goal

-- the index is behind those that were passed
abbrev pub invariant-loop-index : goal.invariant-loop-index
invariant-loop-index l = referrer_index l.one l.known ≡ l.index + referrer_index l.one (drop l.index l.known)
