use Rattle.std.proofs.Common.{rules, arith, ◌≡◌, ◌≤◌, length, refl, sym, ap}
use Rattle.session_gate.specs.Views.{GateView}
use Rattle.session_gate.proofs.CloseLemmas.{closes, whole_as}
use Rattle.session_gate.proofs.gate.Gate.close.Goals as goal

pub unreachable-requires : goal.unreachable-requires
unreachable-requires g c =
    let gate : GateView g.row.M.Denot = record { id = c.self.inside.table.shared.table_id; start = c.self.inside.table.shared.key.machine.value; made = c.self.inside.made } in
    let made = c.self.invariant.2 in
    let some_pass = c.self.invariant.3 in
    let count : length c.into_vec.result.items ≡ length c.args.passes = ap length c.into_vec.ensures in
    let many : c.self.inside.made ≤ length c.args.passes = search rules in
    let whole = closes _ _ g.M.Machine.takes g.M.Machine.answers _ _ gate c.into_vec.result.items c.gather-seat.result _ _ c.take-out.result refl (sym made) (omega arith) (omega arith) c.gather-seat.ensures c.close_with-closed.ensures.values.2 c.take-out.ensures.value in
    c.in_default.not-Some whole.0 whole.1

pub returns-clause-ok : goal.returns-clause-ok
returns-clause-ok g c =
    let gate : GateView g.row.M.Denot = record { id = c.self.inside.table.shared.table_id; start = c.self.inside.table.shared.key.machine.value; made = c.self.inside.made } in
    let made = c.self.invariant.2 in
    let some_pass = c.self.invariant.3 in
    let count : length c.into_vec.result.items ≡ length c.args.passes = ap length c.into_vec.ensures in
    let many : c.self.inside.made ≤ length c.args.passes = search rules in
    let whole = closes _ _ g.M.Machine.takes g.M.Machine.answers _ _ gate c.into_vec.result.items c.gather-seat.result _ _ c.take-out.result refl (sym made) (omega arith) (omega arith) c.gather-seat.ensures c.close_with-closed.ensures.values.2 c.take-out.ensures.value in
    whole_as _ _ g.M.Machine.takes g.M.Machine.answers gate c.args.self c.into_vec.result.items c.args.passes c.take-out.result whole.0 c.in-Some.machine c.self.view_is c.into_vec.ensures whole.1 c.in-Some.is whole.2
