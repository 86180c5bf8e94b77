use Rattle.session_gate.specs.Gate.{IsPassOf}
use Rattle.gate_tests.proofs.turns.call_each.Given as goal

abbrev pub invariant-loop-event : goal.invariant-loop-event
invariant-loop-event g l = IsPassOf l.gate l.pass
