use Rattle.session_gate.specs.Gate.{IsPassOf}
use Rattle.gate_turns.proofs.tally.turn_with.Given as goal

abbrev pub invariant-loop : goal.invariant-loop
invariant-loop g l = IsPassOf l.gate l.pass
