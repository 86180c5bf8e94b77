use Rattle.std.proofs.Common.{rules, ◌≡◌, length, refl, sym, subst, List}
use Rattle.session_gate.specs.Views.{PassView, GateView}
use Rattle.session_gate.specs.Gate.{AreAllNew}
use Rattle.session_gate.proofs.DealLemmas.{all_new}
use Rattle.session_gate.proofs.gate.Gate.new.Goals as goal

pub returns-clause-each : goal.returns-clause-each
returns-clause-each g c =
    let gate : GateView g.row.M.Denot = record { id = c.in_ok-table.table.shared.table_id; start = c.in_ok-table.table.shared.key.machine.value; made = c.args.passes } in
    let count : length c.deal.new.list.items ≡ c.args.passes = search rules in
    subst (λ (z : List (PassView g.row.M-Entry.Denot g.row.M-Opening.Denot)). AreAllNew g.M.Machine.history g.M.Machine.opening gate z) (sym c.from.ensures)
    (all_new _ _ gate c.in_ok-table.table.shared.key.machine.value c.deal.new.list.items refl count c.deal.ensures.each)
