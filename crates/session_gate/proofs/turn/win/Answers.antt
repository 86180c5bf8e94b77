use Rattle.std.proofs.Common.{rules, ◌∙◌}
use Rattle.session_gate.proofs.TurnLemmas.{wins_allowed}
use Rattle.session_gate.proofs.CallLemmas.{idle_is, untold}
use Rattle.session_gate.proofs.turn.win.Goals as goal

pub compare_exchange-found-requires : goal.compare_exchange-found-requires
compare_exchange-found-requires g c =
    let k = idle_is c.args.seat.now c.requires.idle in
    (search rules, search rules, wins_allowed _ _ _ _ _ _ _ _ _ _ k.0 (search rules) (c.loop.invariant.2 ∙ k.1) (untold c.args.seat.now k.0 c.requires.idle k.1))
