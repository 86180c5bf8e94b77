use Rattle.std.proofs.Common.{◌≡◌, ◌≤◌, vec_len, vec_capacity}
use Rattle.session_gate.proofs.DealLemmas.{IsDealing}
use Rattle.session_gate.proofs.dealing.deal.Given as goal

abbrev pub invariant-loop-made : goal.invariant-loop-made
invariant-loop-made g l =
    IsDealing l.shared.table_id (g.M.Machine.opening l.shared.key.machine.value) (g.M.Machine.history l.shared.key.machine.value) l.passes l._made l.seat l.list.items
    × (vec_len l.list ≡ l._made) × (l.passes ≤ vec_capacity l.list)
