use Rattle.std.proofs.Common.{◌≡◌, length}
use Rattle.context_changes.specs.Renewal.{with_users_now}
use Rattle.context_changes.proofs.renewal.put_users.Given as goal

-- with those that are left they are as they shall be
abbrev pub invariant-loop-user : goal.invariant-loop-user
invariant-loop-user l = with_users_now l.contexts l.users.items ≡ with_users_now l.initial.contexts l.fn.users.items

abbrev pub decreases-loop-user : goal.decreases-loop-user
decreases-loop-user l = length l.users.items
