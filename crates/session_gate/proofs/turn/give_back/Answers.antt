use Rattle.std.proofs.Common.{rules, ap, ◌*◌, ℕ}
use Rattle.session_gate.proofs.TurnLemmas.{slot_in, returns_allowed}
use Rattle.session_gate.proofs.turn.give_back.Goals as goal

pub swap-requires : goal.swap-requires
swap-requires g c =
    let t = c.requires.turn in
    let held = slot_in t.0 c.args.machine c.args.seat.now.me c.exchange-out.new.seat.me t.1 c.exchange-out.ensures.3 in
    (search rules, search rules, returns_allowed _ _ _ _ _ _ _ _ _ _ t.0 c.args.machine held t.2 t.3 t.4 (ap (λ (n : ℕ). 2 * n) c.entries-entries.ensures.count))
